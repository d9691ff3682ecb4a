use Rattle.std.proofs.Common.{inr}
use Rattle.ckrt_cli_disk.proofs.driving.drive_opened.Goals as goal

-- what was recovered was driven
pub returns-in-Ok-clause-drives : goal.returns-in-Ok-clause-drives
returns-in-Ok-clause-drives g c =
    let e = c.in-Ok.ensures in
    inr (record {
      session = c.in-Ok.session;
      recovered = record { content = e.exact; view = e.opened; represents = e.represents; disk = e.disk };
      drives = c.drive_recovered.ensures.drives;
    })
