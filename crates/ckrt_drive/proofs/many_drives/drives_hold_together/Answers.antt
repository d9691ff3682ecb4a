use Rattle.std.proofs.Common.{sym, subst}
use Rattle.ckrt_drive.specs.Together.{StandTogether}
use Rattle.ckrt_drive.proofs.DriveLemmas.{all_keep}
use Rattle.ckrt_drive.proofs.LeftLemmas.{stands_formatted}
use Rattle.ckrt_drive.proofs.many_drives.drives_hold_together.Goals as goal

pub returns-clause-keep : goal.returns-clause-keep
returns-clause-keep g c = λ h first more start output stand is behind.
    all_keep g.D.Disk g.O.Disk h.program h.old g.met.D.Disk.only_now g.met.O.Disk.only_now h.acknowledged h.accepted first more
    (subst (λ a. StandTogether g.D.Disk g.O.Disk h first.start a) (sym output) (subst (λ d. StandTogether g.D.Disk g.O.Disk h d c.args.output.now) (sym start) stand))
    is behind

pub returns-clause-formatted : goal.returns-clause-formatted
returns-clause-formatted g c = λ p made settled. stands_formatted g.D.Disk g.O.Disk p c.args.disk.now c.args.output.now made settled
