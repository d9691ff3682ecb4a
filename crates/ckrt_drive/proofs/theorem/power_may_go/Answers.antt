use Rattle.std.proofs.Common.{[]}
use Rattle.ckrt_recovery.proofs.ReachedLemmas.{survives}
use Rattle.ckrt_drive.proofs.DriveLemmas.{all_keep}
use Rattle.ckrt_drive.proofs.LeftLemmas.{stands_formatted}
use Rattle.ckrt_drive.proofs.theorem.power_may_go.Goals as goal

pub returns-clause-power_loss : goal.returns-clause-power_loss
returns-clause-power_loss g c = λ p events old new reached clause honest. survives old new clause honest p events reached

pub returns-clause-many_drives : goal.returns-clause-many_drives
returns-clause-many_drives g c = λ p first more begin is behind.
    all_keep g.D.Disk g.O.Disk p (g.O.Disk.content first.first.output) g.met.D.Disk.only_now g.met.O.Disk.only_now [] [] first more
    (stands_formatted g.D.Disk g.O.Disk p first.start first.first.output begin.formatted begin.durable)
    is behind
