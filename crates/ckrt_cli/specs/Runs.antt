-- Runs of the program as drives.
use Rattle.std.specs.Prelude.{◌≡◌, ◌⊎◌, ℕ, false, List, ◌∷◌, Option, Some, Result, Ok}
use Rattle.ckrt_disk.specs.declared.disk.Disk.{Ghosts}
use Rattle.ckrt_drive.specs.Runs.{IsAtEnd}
use Rattle.ckrt_drive.specs.Stages.{IsOver, Stage, stage}
use Rattle.ckrt_history.specs.declared.keeping_fault.KeepingFault.{KeepingFault}
use Rattle.ckrt_drive.specs.declared.options.Options.{Options}
use Rattle.ckrt_schedule.specs.declared.next.ScheduleEnd.{ScheduleEnd}
use Rattle.ckrt_cli_disk.specs.Driving.{DrivesWay, Way, way_of}
use Rattle.ckrt_recovery.specs.Opening.{IsSyncedAndRead}
use Rattle.ckrt_recovery.specs.Recovered.{IsRecovered}
use Rattle.ckrt_cli_disk.specs.Feeding.{SuppliesFrom}
use Rattle.ckrt_cli_disk.specs.Noting.{Notes}
use Rattle.ckrt_stored.specs.declared.schedule.ScheduleNote.{ScheduleNote}
use Rattle.ckrt_cli_files.specs.Openings.{Openings}
use Rattle.ckrt_cli_files.specs.Sources.{Gives}
use Rattle.ckrt_cli_reports.specs.declared.driven.Driven.{Driven}
use Rattle.ckrt_cli_disk.specs.declared.equipping.Beside.{Beside}
use Rattle.ckrt_cli_disk.specs.declared.equipping.Left.{Left}
use Rattle.ckrt_drive.specs.Offset.{offset_from}
use Rattle.ckrt_recovery.specs.View.{view_of}
use Rattle.ckrt_recovery.specs.declared.session.Session.{Session}
use Rattle.ckrt_drive.specs.Drives.{IsDrive, IsToldByRecord, OneDrive}

-- A run of the program: the disk that it recovered, how it was to go, what was beside it as it began and as it ended, the session and the output
-- before and after it, and what it came to.
pub record ProgramRun {D O : Type 0} (d : Ghosts D) (o : Ghosts O) : Type 0 where
  pub start : D
  pub options : Options
  pub beside : Beside D d
  pub left : Left D
  pub before : Session D d
  pub after : Session D d
  pub output : O
  pub end : O
  pub answer : Result Driven KeepingFault
  pub drives : DrivesWay o (way_of d options beside left) before after output end answer

-- how it went, and what its program was given
abbrev pub way_of_run : {D O : Type 0} {d : Ghosts D} {o : Ghosts O} → ProgramRun d o → Way d
way_of_run {d = d} r = way_of d r.options r.beside r.left

-- as a drive, which was stopped at this stage
abbrev pub drive_of : {D O : Type 0} {d : Ghosts D} {o : Ghosts O} → ProgramRun d o → Stage d o
    → OneDrive d o
drive_of {o = o} r at = record {
  start = r.start;
  options = (way_of_run r).options;
  file = (way_of_run r).file;
  first = stage o (way_of_run r).options.events (way_of_run r).taken r.before r.output;
  stages = r.drives.by_steps.stages;
  last = stage o r.drives.left r.drives.taken r.after r.end;
  at = at;
}

-- it is one, and saves all before an end
pub record IsRun {D O : Type 0} {d : Ghosts D} {o : Ghosts O} (r : ProgramRun d o) : Type 0 where
  pub is : (at : Stage d o) → IsDrive (drive_of r at)
  pub ends : (ending : ScheduleEnd) → r.drives.ran ≡ Ok (Some ending)
      → IsAtEnd r.drives.left (view_of r.after) ending
  -- which is what the plan has next
  pub over : (ending : ScheduleEnd) → r.drives.ran ≡ Ok (Some ending)
      → IsOver (way_of_run r).options (way_of_run r).file
      (stage o r.drives.left r.drives.taken r.after r.end) ending

-- A run of what its disk recovers to is a drive: with an input too, where that has read as the same bytes to the end.
abbrev pub RunsAreDrives : {D O : Type 0} → Ghosts D → Ghosts O → Type 0
RunsAreDrives d o =
    (r : ProgramRun d o) → IsRecovered d r.start r.before → d.is_honest r.after.disk
    → o.is_honest r.end → (way_of_run r).IsRead → IsRun r

-- A disk that was made longer was as honest before, and tells as much of its input.
pub record TellsAsBefore {D : Type 0} (d : Ghosts D) (looked longer : D) : Type 0 where
  pub honest : d.is_honest longer → d.is_honest looked
  pub told : (said : Option ℕ) → offset_from said (d.content longer) ≡ offset_from said (d.content looked)

-- Where a disk was made longer for a run, which began with this one then: so it was with these two. Of other disks nothing is said, and
-- nothing at all where none was made longer.
abbrev pub TellsIfLonger : {D : Type 0} → Ghosts D → (old new : Openings D) → (start : D) → Type 0
TellsIfLonger {D = D} d old new start =
    (looked : D) → new.lengthened ≡ looked ∷ old.lengthened → TellsAsBefore d looked start

-- A disk as it is once its history, where it has one, was given what that lacked of it: synced, and then only read.
abbrev pub IsJoined : {D : Type 0} → Ghosts D → (noted start : D) → Type 0
IsJoined d noted start = (start ≡ noted) ⊎ IsSyncedAndRead d noted start false

-- A run whose disk and input were supplied to it so, whose schedule was then noted, and whose history was given what it lacked, was told what the
-- record of that disk says: the words have their say only where the disk can't tell.
abbrev pub RunsAreTold : {D O : Type 0} → Ghosts D → Ghosts O → Gives D → Type 0
RunsAreTold {D = D} d o gives =
    (r : ProgramRun d o) (found supplied noted : D) (path : List ℕ) (from : Option ℕ)
    (old new : Openings D) (schedule : ScheduleNote) → TellsIfLonger d old new supplied
    → SuppliesFrom d gives path from found old new
    (Ok (record { disk = supplied; intake = r.beside.intake }))
    → Notes d schedule supplied noted (Ok tt) → IsJoined d noted r.start
    → IsRecovered d r.start r.before → d.is_honest r.after.disk → (at : Stage d o) → IsToldByRecord (drive_of r at)
