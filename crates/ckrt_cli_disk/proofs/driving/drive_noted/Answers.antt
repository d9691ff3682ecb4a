use Rattle.std.proofs.Common.{Ok, Err, refl}
use Rattle.ckrt_cli_disk.proofs.driving.drive_noted.Goals as goal

-- the schedule of the words was noted, and the disk driven as that left it
pub returns-in-Ok-clause-drives : goal.returns-in-Ok-clause-drives
returns-in-Ok-clause-drives g c =
    let e = c.in-Ok.ensures in
    record {
      disk = c.note_schedule.new.disk;
      answer = Ok c.in-Ok.field-0;
      notes = record {
        any_moment = rw c.asked_schedule.ensures at e.any_moment;
        within = e.within;
        noted = rw c.asked_schedule.ensures at e.noted;
      };
      drives = c.drive_joined.ensures.drives;
    }

-- where that failed all were closed as they were
pub returns-in-Err-clause-drives : goal.returns-in-Err-clause-drives
returns-in-Err-clause-drives g c =
    let e = c.in-Err.ensures in
    record {
      disk = c.note_schedule.new.disk;
      answer = Err c.in-Err.field-0;
      notes = record {
        any_moment = rw c.asked_schedule.ensures at e.any_moment;
        within = e.within;
        noted = e.noted;
      };
      drives = (refl, rw c.file_of.ensures at c.close_both.ensures);
    }
