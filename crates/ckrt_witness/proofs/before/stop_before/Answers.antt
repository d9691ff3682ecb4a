use Rattle.ckrt_witness.proofs.BeforeLemmas.{before_met}
use Rattle.ckrt_witness.proofs.before.stop_before.Goals as goal

pub returns : goal.returns
returns g c = λ t. before_met g.D.Disk g.O.Disk g.met.D.Disk.counts_now g.met.D.Disk.readable g.met.O.Disk.counts_now g.met.O.Disk.readable t
