use Rattle.std.proofs.Common.{[], ◌∙◌}
use Rattle.ckrt_drive.proofs.LeftLemmas.{starts_formatted}
use Rattle.ckrt_witness.proofs.stopping.fail_drive.Goals as goal

pub returns : goal.returns
returns g c = λ honest output_honest p start.
    let s = c.in-Ok.session in
    let d = c.new-drive.ensures in
    let end = c.run.new.self in
    let e = rw (d.options, d.left, d.session, d.output) at c.in-Err.ensures in (
      record {
        options = c.args.options;
        steps = _;
        left = c.args.options.events;
        left' = end.left;
        old = s;
        new = end.session;
        output = c.args.output;
        end = end.output;
        events = [];
        represents = c.in-Ok.ensures.represents (honest s.disk) p [] 0 (starts_formatted p (g.D.Disk.content c.args.disk) start);
        runs = e.runs;
        honest = honest end.session.disk;
        output_honest = output_honest end.output;
      },
      e.device,
      e.output,
    )
