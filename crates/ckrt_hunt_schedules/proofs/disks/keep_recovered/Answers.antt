use Rattle.std.proofs.Common.{sym, subst}
use Rattle.std.proofs.lemmas.Result.{IfErr-weaker, IfOk-weaker}
use Rattle.ckrt_hunt_schedules.specs.KeptDisks.{HasRun, IsOverReason, IsReason}
use Rattle.ckrt_hunt_schedules.proofs.DiskLemmas.{has_run, over_reason, unrecovered}
use Rattle.ckrt_hunt_schedules.proofs.disks.keep_recovered.Goals as goal

pub returns-in-Ok-clause-kept : goal.returns-in-Ok-clause-kept
returns-in-Ok-clause-kept g c = λ program starts.
    let d = g.D.Disk in
    let p = c.args.plan.now in
    let first = c.in-Ok.session in
    let last = c.keep_over-result.new.session in
    let made = c.in-Ok.ensures in
    IfOk-weaker c.keep_over-result.result _ (λ ending. d.is_honest c.into_disk.result → HasRun d program p c.into_disk.result ending) (λ ending kept.
    subst (λ end. d.is_honest end → HasRun d program p end ending) (sym c.into_disk.ensures)
    (λ honest. has_run program p c.args.disk first last ending starts made.disk.same made.exact made.represents kept honest)) c.keep_over-result.ensures.kept

pub returns-in-Ok-clause-why : goal.returns-in-Ok-clause-why
returns-in-Ok-clause-why g c = λ program harts starts honest.
    let d = g.D.Disk in
    let p = c.args.plan.now in
    let first = c.in-Ok.session in
    let last = c.keep_over-result.new.session in
    let made = c.in-Ok.ensures in
    let over = c.keep_over-result.ensures in
    IfErr-weaker c.keep_over-result.result (IsOverReason p first last) (λ f. IsReason d program p c.args.disk c.into_disk.result f) (λ f why.
    subst (λ end. d.is_honest end → IsReason d program p c.args.disk end f) (sym c.into_disk.ensures)
    (over_reason program p c.args.disk first last f harts starts made.disk made.exact made.represents made.opened over.took.1.honest why) honest) over.why

pub returns-in-Err-clause-why : goal.returns-in-Err-clause-why
returns-in-Err-clause-why g c = λ program harts starts honest.
    let made = c.in-Err.ensures in
    unrecovered program c.args.disk c.in-Err.unrecovered.disk c.in-Err.unrecovered.fault starts made.disk made.exact honest
