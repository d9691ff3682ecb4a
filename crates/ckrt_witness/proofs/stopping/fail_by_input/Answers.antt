use Rattle.std.proofs.Common.{rules, ◌≡◌, ◌-◌, ◌^◌, [], Option, Result, Err, refl, subst}
use Rattle.ckrt_disk.specs.Disk.{HasFailed}
use Rattle.ckrt_drive.specs.Given.{CountsRead}
use Rattle.ckrt_drive.specs.Runs.{Runs}
use Rattle.ckrt_drive.specs.declared.fault.DriveFault.{DriveFault}
use Rattle.ckrt_drive.specs.declared.fault.DriveFault.TheVariants.{Input}
use Rattle.ckrt_drive.proofs.LeftLemmas.{starts_formatted}
use Rattle.ckrt_schedule.specs.declared.next.ScheduleEnd.{ScheduleEnd}
use Rattle.ckrt_witness.proofs.stopping.fail_by_input.Goals as goal

pub returns : goal.returns
returns g c = λ honest output_honest p start.
    let s = c.in-Ok.session in
    let d = c.with_feed-drive.ensures in
    let parts = c.into_parts-session.ensures in
    let end = c.run.new.self in
    let is : c.run.result ≡ Err Input = search rules in
    let ran = rw (d.options, d.left, d.session, d.output) at c.run.ensures.runs in
    let read : CountsRead (g.I.Disk.failures c.args.input) (g.I.Disk.failures end.feed.disk) c.run.result = rw (d.feed, c.new.ensures) at c.run.ensures.reads in
    let failed : HasFailed (g.I.Disk.failures c.args.input) (g.I.Disk.failures end.feed.disk) = subst (λ (r : Result (Option ScheduleEnd) DriveFault). CountsRead (g.I.Disk.failures c.args.input) (g.I.Disk.failures end.feed.disk) r) is read refl in (
      record {
        options = c.args.options;
        steps = _;
        left = c.args.options.events;
        left' = end.left;
        old = s;
        new = end.session;
        output = c.args.output;
        end = end.output;
        events = [];
        represents = c.in-Ok.ensures.represents (honest s.disk) p [] 0 (starts_formatted p (g.D.Disk.content c.args.disk) start);
        runs = subst (λ (r : Result (Option ScheduleEnd) DriveFault). Runs g.O.Disk c.args.options (2 ^ 64 - 1) c.args.options.events end.left s end.session c.args.output end.output r) is ran;
        honest = honest end.session.disk;
        output_honest = output_honest end.output;
      },
      rw (c.into_disk.ensures, parts.feed) failed,
    )
