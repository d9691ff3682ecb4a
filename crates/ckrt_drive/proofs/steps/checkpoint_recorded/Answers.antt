use Rattle.std.proofs.Common.{rules, Some}
use Rattle.ckrt_recovery.specs.declared.fault.CommitFault.TheVariants.{Failed, Device}
use Rattle.ckrt_drive.proofs.SaveLemmas.{advances_checkpoint, advances_used, advances_unsaved}
use Rattle.ckrt_drive.proofs.FeedLemmas.{saved_feeds}
use Rattle.ckrt_drive.proofs.steps.checkpoint_recorded.Goals as goal

pub returns-in-Ok : goal.returns-in-Ok
returns-in-Ok g c =
    let f = c.checkpoint.ensures in
    advances_checkpoint (Some c.args.taken) _ _ c.in-Ok.field-0 c.args.session.now c.checkpoint.new.session c.checkpoint.result c.in-Ok.is (saved_feeds c.args.session.now c.checkpoint.new.session c.args.taken f.saves) f.records f.any_moment f.represents f.disk.within f.checkpoints

pub returns-in-Err-GenerationsUsed : goal.returns-in-Err-GenerationsUsed
returns-in-Err-GenerationsUsed g c =
    let f = c.checkpoint.ensures in
    advances_used (Some c.args.taken) c.args.session.now c.checkpoint.new.session c.checkpoint.result (search rules) f.checkpoints

pub returns-in-Err-Failed : goal.returns-in-Err-Failed
returns-in-Err-Failed g c =
    let f = c.checkpoint.ensures in
    advances_unsaved (Some c.args.taken) _ _ Failed c.args.session.now c.checkpoint.new.session c.checkpoint.result (search rules) (λ no. absurd (cc)) (saved_feeds c.args.session.now c.checkpoint.new.session c.args.taken f.saves) f.records f.any_moment f.represents f.disk.within f.checkpoints

pub returns-in-Err-Device : goal.returns-in-Err-Device
returns-in-Err-Device g c =
    let f = c.checkpoint.ensures in
    advances_unsaved (Some c.args.taken) _ _ Device c.args.session.now c.checkpoint.new.session c.checkpoint.result (search rules) (λ no. absurd (cc)) (saved_feeds c.args.session.now c.checkpoint.new.session c.args.taken f.saves) f.records f.any_moment f.represents f.disk.within f.checkpoints
