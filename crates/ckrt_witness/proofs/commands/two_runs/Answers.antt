use Rattle.ckrt_witness.proofs.RunsLemmas.{two_runs}
use Rattle.ckrt_witness.proofs.commands.two_runs.Goals as goal

pub returns : goal.returns
returns g c = λ p file twice. two_runs _ g.met.D.Disk.counts_now g.met.D.Disk.readable p file twice
