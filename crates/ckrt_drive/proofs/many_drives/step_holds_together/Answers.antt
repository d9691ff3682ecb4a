use Rattle.ckrt_drive.proofs.StepTogether.{step_together}
use Rattle.ckrt_drive.proofs.many_drives.step_holds_together.Goals as goal

pub returns : goal.returns
returns g c = λ planned result h honest whole p events reps held old spared image left.
    step_together g.O.Disk planned c.args.before.now c.args.after.now c.args.output.now c.args.end.now g.met.D.Disk.only_now g.met.O.Disk.only_now result h honest whole p events reps held old spared image left
