use Rattle.ckrt_witness.proofs.DriveTurnLemmas.{turns_met}
use Rattle.ckrt_witness.proofs.turns_in_drives.turn_twice.Goals as goal

pub returns : goal.returns
returns g c = λ p t. turns_met g.D.Disk g.O.Disk g.met.D.Disk.counts_now g.met.D.Disk.readable g.met.O.Disk.counts_now g.met.O.Disk.readable c.power_may_go.ensures.many_drives p t
