use Rattle.ckrt_drive.proofs.LengtheningLemmas.{keeps_longer, recorded_stands_readied, recover_readied, tells_longer}
use Rattle.ckrt_drive.proofs.lengthening.longer_disks_are_the_same.Goals as goal

pub returns-clause-recover : goal.returns-clause-recover
returns-clause-recover g c = recover_readied

pub returns-clause-keep : goal.returns-clause-keep
returns-clause-keep g c = keeps_longer g.D.Disk g.O.Disk

pub returns-clause-tell : goal.returns-clause-tell
returns-clause-tell g c = tells_longer g.D.Disk g.met.D.Disk.readable

pub returns-clause-record : goal.returns-clause-record
returns-clause-record g c = λ h old left is stand. recorded_stands_readied g.D.Disk g.O.Disk h old left is.images stand
