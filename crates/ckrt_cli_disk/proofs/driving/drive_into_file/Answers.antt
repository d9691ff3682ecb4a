use Rattle.std.proofs.Common.{inr}
use Rattle.ckrt_cli_disk.proofs.driving.drive_into_file.Goals as goal

-- the output that was opened is the one that was driven onto, or refused
pub returns-in-Ok : goal.returns-in-Ok
returns-in-Ok g c =
    let e = c.in-Ok.ensures in
    inr (record { output = c.in-Ok.opened; is_opened = e.output; drives = rw e.asked at c.drive_onto_opened.ensures })
