use Rattle.ckrt_recovery.specs.View.{view_of}
use Rattle.ckrt_drive.proofs.PlannedLemmas.{all_acknowledged, nothing_pending}
use Rattle.ckrt_drive.proofs.laws.checkpoints_find_nothing_pending.Goals as goal

pub returns-clause-acknowledged : goal.returns-clause-acknowledged
returns-clause-acknowledged g c = λ left is. all_acknowledged c.args.options.now left (view_of c.args.session.now) is

pub returns-clause-pending : goal.returns-clause-pending
returns-clause-pending g c = λ left p events reps is. nothing_pending c.args.options.now left c.args.session.now p events reps is
