use Rattle.ckrt_cli.proofs.SoundLemmas.{leading_sound}
use Rattle.ckrt_cli.proofs.look_laws.runs_that_lead_on_are_sound.Goals as goal

pub returns : goal.returns
returns c = λ newer older leads accepted. leading_sound newer older leads accepted
