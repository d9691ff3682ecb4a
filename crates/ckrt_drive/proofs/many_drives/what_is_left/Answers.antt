use Rattle.ckrt_drive.proofs.LeftLemmas.{left_image, left_itself}
use Rattle.ckrt_drive.proofs.many_drives.what_is_left.Goals as goal

pub returns-clause-killed : goal.returns-clause-killed
returns-clause-killed g c = λ honest le inside. left_itself g.D.Disk g.met.D.Disk.counts_now c.args.old.now c.args.new.now honest le inside

pub returns-clause-lost : goal.returns-clause-lost
returns-clause-lost g c = λ image had is none. left_image g.D.Disk c.args.old.now c.args.new.now c.args.left.now image had is none
