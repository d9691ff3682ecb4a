use Rattle.ckrt_drive.proofs.LeftLemmas.{stop_in_recovery}
use Rattle.ckrt_drive.proofs.many_drives.recoveries_leave_the_same.Goals as goal

pub returns : goal.returns
returns g c = λ stages x at failed h read honest whole there same.
    stop_in_recovery g.D.Disk g.O.Disk g.met.D.Disk.only_now g.met.O.Disk.only_now stages x at c.args.start.now c.args.end.now c.args.left.now c.args.output.now c.args.left_output.now failed h read honest whole there same
