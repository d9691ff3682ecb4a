-- The drive that a run of the program came to: what is asked of the system for it, and what is promised of it.
use Rattle.std.specs.Prelude.{◌≡◌, ◌<◌, ℕ, Bool, List, [], ◌∷◌, length, IfSome, Option, Some, None, Result}
use Rattle.ckrt_disk.specs.Frame.{IsOnlyRead, MayBeLeft}
use Rattle.ckrt_disk.specs.declared.disk.DeviceFault.{DeviceFault}
use Rattle.ckrt_disk.specs.declared.disk.Disk.{Ghosts}
use Rattle.ckrt_drive.specs.Output.{HoldsOutput}
use Rattle.ckrt_drive.specs.Runs.{IsAllSaved}
use Rattle.ckrt_drive.specs.Stages.{Stage}
use Rattle.ckrt_events.specs.declared.event.Event.{Event}
use Rattle.ckrt_recovery.specs.Opening.{IsSyncedAndRead}
use Rattle.ckrt_recovery.specs.View.{view_of}
use Rattle.ckrt_schedule.specs.declared.schedule.Schedule.{Schedule}
use Rattle.ckrt_cli_files.specs.Sources.{Gives}
use Rattle.ckrt_cli_disk.specs.Noting.{Notes}
use Rattle.ckrt_stored.specs.Programs.{output_after}
use Rattle.ckrt_stored.specs.declared.schedule.ScheduleNote.{ScheduleNote}
use Rattle.ckrt_cli_words.specs.Jobs.{Driving}
use Rattle.ckrt_drive.specs.ByPlan.{IsByPlan, IsUnbroken, course}
use Rattle.ckrt_drive.specs.Drives.{HasEnded, Keeps, OneDrive, past_behind}
use Rattle.ckrt_drive.specs.Giving.{GiveFile}
use Rattle.ckrt_drive.specs.Lengthening.{IsLengthened, IsLonger}
use Rattle.ckrt_cli.specs.Lengths.{size_after}
use Rattle.ckrt_cli.specs.Runs.{IsRun, drive_of, way_of_run}
use Rattle.ckrt_drive.specs.Together.{IsLeftSince, Past}
use Rattle.ckrt_cli.specs.Coming.{Came}

-- its drive, and the stage at which that was stopped
pub record Drove {D : Type 0} (d : Ghosts D) (gives : Gives D) (j : Driving) (path : List ℕ)
    : Type 0 where
  pub came : Came d gives j path
  pub at : Stage d d

abbrev pub drove : {D : Type 0} {d : Ghosts D} {gives : Gives D} {j : Driving} {path : List ℕ}
    → Option (Came d gives j path) → Option (Stage d d) → Option (Drove d gives j path)
drove (Some came) (Some at) = Some (record { came = came; at = at })
drove (Some came) None = None
drove None stopped = None

-- as the laws of drives speak of it
abbrev pub as_drive : {D : Type 0} {d : Ghosts D} {gives : Gives D} {j : Driving} {path : List ℕ}
    → Drove d gives j path → OneDrive d d
as_drive x = drive_of x.came.run x.at

-- THE PREMISES

-- What all runs have in common: the bytes of the input, where there is one; and turn and seed, where these are the same.
pub record Common : Type 0 where
  pub file : Option (List ℕ)
  pub schedule : Option Schedule

-- words have this turn and this seed
pub record HasSchedule (u : Schedule) (j : Driving) : Type 0 where
  pub turn : j.turn ≡ u.turn
  pub seed : j.seed ≡ u.seed

-- A disk that was made longer has zeros behind its bytes: as it reads, and in all that a stop may leave of it. Before, it was honest.
pub record HasZerosBehind {D : Type 0} (d : Ghosts D) (old longer : D) : Type 0 where
  pub honest : d.is_honest old
  pub reads : IsLonger (d.content old) (d.content longer)
  pub left : IsLengthened d old longer

-- What is asked of the system for a drive.
pub record IsKept {D : Type 0} {d : Ghosts D} {gives : Gives D} {j : Driving} {path : List ℕ}
    (c : Common) (disk output : D) (x : Drove d gives j path) : Type 0 where
  -- opening gave the files that were there
  pub found_disk : x.came.found ≡ disk
  pub found_output : x.came.run.output ≡ output
  -- disk and output kept the disk model up to the end
  pub disk_honest : d.is_honest x.came.run.after.disk
  pub output_honest : d.is_honest x.came.run.end
  -- so did the input, which has the bytes that all runs have
  pub input_honest : (way_of_run x.came.run).IsRead
  pub same_input : (way_of_run x.came.run).file ≡ c.file
  -- a disk that was made longer for its record has zeros there
  pub longer : (looked : D) → x.came.asked.lengthened ≡ looked ∷ x.came.before.lengthened
      → HasZerosBehind d looked x.came.supplied

-- what a stop may leave of a device is what it might have left before
pub record IsAsBefore {D : Type 0} (d : Ghosts D) (old left : D) : Type 0 where
  pub images : (image : List ℕ) → MayBeLeft d left image → MayBeLeft d old image
  pub inside : (i : ℕ) → d.pending left i → i < length (d.content left)

-- WHAT IS PROMISED

-- of a drive, after what came before it
pub record Holds {D : Type 0} {d : Ghosts D} {gives : Gives D} {j : Driving} {path : List ℕ}
    (c : Common) (h : Past) (x : Drove d gives j path) : Type 0 where
  -- at an end all is saved
  pub run : IsRun x.came.run
  -- it has all events that were acknowledged, whatever a stop leaves of both files goes together, and at an end the output is the plain fold's
  pub keeps : Keeps h (as_drive x)
  -- the file of the output is as long then
  pub long : IsAllSaved (view_of x.came.run.after)
      → size_after x.came.output.length x.came.run.before.progress.confirmed
      x.came.run.drives.runs.puts.pieces
      ≡ length (output_after h.program keeps.all)
  -- its events give a beginning of the input, and the end only behind all of it
  pub gives_input : IfSome c.file (GiveFile keeps.all)
  -- by one turn and seed its events are a beginning of one list, and where the program has ended they are that list
  pub by_plan : IfSome c.schedule (λ u. IsByPlan (course u c.file) h.program keeps.all)
  pub unbroken : IfSome c.schedule (λ u.
      HasEnded (as_drive x) → (whole : List Event)
      → IsUnbroken (course u c.file) h.program [] whole
      → (keeps.all ≡ whole)
      × HoldsOutput d 0 (length (output_after h.program whole)) (output_after h.program whole)
      (as_drive x).last.output)

-- what a drive came to comes before the next one; a run without one leaves the past as it was
abbrev pub HoldsBehind : {D : Type 0} {d : Ghosts D} {gives : Gives D} {j : Driving}
    {path : List ℕ} → Common → (h : Past) → (Next : Past → Type 0)
    → Option (Drove d gives j path) → Type 0
HoldsBehind c h Next None = Next h
HoldsBehind c h Next (Some x) = (k : Holds c h x) × Next (past_behind (as_drive x) k.keeps)

-- BEFORE A DRIVE

-- Reading a disk leaves it as it was, whatever a stop meanwhile leaves: with no zero behind it. So does syncing it first, as recovering does it, and
-- what gives a history that which it lacks of the disk. Noting a schedule on it leaves it so too, but for the notes. What is left so of what was
-- left so was left so.
pub record LeaveItLonger {D : Type 0} (d : Ghosts D) : Type 0 where
  pub reading : (start end left : D) (failed : Bool) → IsOnlyRead d start end failed
      → d.is_honest end → IsLeftSince d start end left → IsLengthened d start left
  pub noting : (schedule : ScheduleNote) (start end left : D)
      (answer : Result (Unit {0}) DeviceFault) → Notes d schedule start end answer
      → d.is_honest end → IsLeftSince d start end left → IsLengthened d start left
  pub recovering : (start end left : D) (failed : Bool) → IsSyncedAndRead d start end failed
      → d.is_honest end → IsLeftSince d start end left → IsLengthened d start left
  pub through : (old mid left : D) → IsLengthened d old mid → IsLengthened d mid left
      → IsLengthened d old left
