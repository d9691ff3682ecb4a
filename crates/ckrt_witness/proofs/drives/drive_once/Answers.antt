use Rattle.std.specs.Prelude.{Some, refl}
use Rattle.ckrt_drive.specs.Stages.{stage}
use Rattle.ckrt_witness.proofs.drives.drive_once.Goals as goal

pub returns-in-Ok : goal.returns-in-Ok
returns-in-Ok g c =
    let e = c.in-Ok.ensures in
    let went = c.go.ensures in
    λ honest whole read records. record {
      drive = record {
        start = c.args.disk;
        options = c.args.options;
        file = Some (g.I.Disk.content c.args.input);
        first = stage g.O.Disk c.args.options.events c.args.taken c.in-Ok.session c.args.output;
        stages = went.steps.stages;
        last = stage g.O.Disk went.left went.taken c.go.result.session c.go.result.output;
        at = stage g.O.Disk went.left went.taken c.go.result.session c.go.result.output;
      };
      is = record {
        recovered = record { content = e.exact; view = e.opened; represents = e.represents; disk = e.disk };
        goes = went.steps.goes;
        supplied = went.steps.supplied read;
        honest = honest;
        output_honest = whole;
      };
      told = records;
      begins = refl;
      opens = refl;
      fed = refl;
      stops = refl;
      ends = refl;
      leaves = refl;
    }
