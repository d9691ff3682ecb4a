use Rattle.std.proofs.Common.{rules, None}
use Rattle.ckrt_recovery.specs.declared.fault.CommitFault.TheVariants.{Failed, Device}
use Rattle.ckrt_drive.proofs.RecordLemmas.{checkpoint_records}
use Rattle.ckrt_drive.proofs.SaveLemmas.{advances_checkpoint, advances_used, advances_unsaved}
use Rattle.ckrt_drive.proofs.steps.checkpoint_alone.Goals as goal

pub returns-in-Ok : goal.returns-in-Ok
returns-in-Ok g c =
    let f = c.checkpoint.ensures in
    advances_checkpoint None _ _ c.in-Ok.field-0 c.args.session.now c.checkpoint.new.self c.checkpoint.result c.in-Ok.is tt (checkpoint_records c.args.session.now c.checkpoint.new.self g.met.D.Disk.only_now g.met.D.Disk.counts_now c.checkpoint.result f.any_moment f.represents f.saves f.disk f.checkpoints) f.any_moment f.represents f.disk.within f.checkpoints

pub returns-in-Err-GenerationsUsed : goal.returns-in-Err-GenerationsUsed
returns-in-Err-GenerationsUsed g c =
    let f = c.checkpoint.ensures in
    advances_used None c.args.session.now c.checkpoint.new.self c.checkpoint.result (search rules) f.checkpoints

pub returns-in-Err-Failed : goal.returns-in-Err-Failed
returns-in-Err-Failed g c =
    let f = c.checkpoint.ensures in
    advances_unsaved None _ _ Failed c.args.session.now c.checkpoint.new.self c.checkpoint.result (search rules) (λ no. absurd (cc)) tt (checkpoint_records c.args.session.now c.checkpoint.new.self g.met.D.Disk.only_now g.met.D.Disk.counts_now c.checkpoint.result f.any_moment f.represents f.saves f.disk f.checkpoints) f.any_moment f.represents f.disk.within f.checkpoints

pub returns-in-Err-Device : goal.returns-in-Err-Device
returns-in-Err-Device g c =
    let f = c.checkpoint.ensures in
    advances_unsaved None _ _ Device c.args.session.now c.checkpoint.new.self c.checkpoint.result (search rules) (λ no. absurd (cc)) tt (checkpoint_records c.args.session.now c.checkpoint.new.self g.met.D.Disk.only_now g.met.D.Disk.counts_now c.checkpoint.result f.any_moment f.represents f.saves f.disk f.checkpoints) f.any_moment f.represents f.disk.within f.checkpoints
