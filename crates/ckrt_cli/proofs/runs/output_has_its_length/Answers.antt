use Rattle.ckrt_cli.specs.Runs.{way_of_run}
use Rattle.ckrt_cli.proofs.LengthLemmas.{long_as_output}
use Rattle.ckrt_cli.proofs.runs.output_has_its_length.Goals as goal

pub returns : goal.returns
returns g c = λ r honest p events reps size fit saved. long_as_output g.D.Disk g.O.Disk (way_of_run r) r.before r.after r.output r.end r.answer r.drives honest p events reps size fit saved
