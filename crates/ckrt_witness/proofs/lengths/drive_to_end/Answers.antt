use Rattle.std.proofs.Common.{rules, ◌≡◌, ◌-◌, ◌^◌, ◌∙◌, Option, Some, Result, Ok, sym, subst}
use Rattle.std.specs.Prelude.{IfOk, IfSome}
use Rattle.ckrt_drive.specs.Runs.{Runs}
use Rattle.ckrt_drive.specs.Stages.{IsOver, stage}
use Rattle.ckrt_drive.specs.declared.fault.DriveFault.{DriveFault}
use Rattle.ckrt_schedule.specs.declared.next.ScheduleEnd.{ScheduleEnd}
use Rattle.ckrt_witness.proofs.LengthLemmas.{ended}
use Rattle.ckrt_witness.proofs.lengths.drive_to_end.Goals as goal

pub returns : goal.returns
returns g c =
    let s = c.in-Ok.session in
    let d = c.with_feed-drive.ensures in
    let parts = c.into_parts-session.ensures in
    let end = c.run.new.self in
    let ending = c.in-Ok-Some._ending in
    let input = c.args.input in
    let is : c.run.result ≡ Ok (Some ending) = search rules in
    let ran = rw (d.options, d.left, d.session, d.output) at c.run.ensures.runs in
    let by_steps = rw (d.options, d.left, d.taken, d.session, d.output, d.feed, c.new.ensures) at c.run.ensures.by_steps in
    let over = rw (d.options, d.feed, c.new.ensures) at c.run.ensures.over in
    let fit = sym c.fits.ensures ∙ c.if-not-fits.false in
    let longer = rw parts.session at c.has_more.ensures c.if-not-has_more.false in
    rw parts.session (ended g.D.Disk g.O.Disk c.args.disk input end.feed.disk c.args.options end.left end.taken s end.session c.args.output end.output ending
    (subst (λ (r : Result (Option ScheduleEnd) DriveFault). Runs g.O.Disk c.args.options (2 ^ 64 - 1) c.args.options.events end.left s end.session c.args.output end.output r) is ran) by_steps
    (λ read. subst (λ (r : Result (Option ScheduleEnd) DriveFault). IfOk r (λ done. IfSome done (IsOver c.args.options (Some (g.D.Disk.content input)) (stage g.O.Disk end.left end.taken end.session end.output)))) is (over read))
    c.in-Ok.ensures.represents c.args.length fit longer)
