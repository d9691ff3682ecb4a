-- What meets the premises of the promise of turns in drives.
use Rattle.std.specs.Prelude.{◌≡◌, ◌≤◌, ℕ, true, None, [], ◌∷◌, length}
use Rattle.ckrt_disk.specs.declared.disk.Disk.{Ghosts}
use Rattle.ckrt_thread.specs.State.{is_ready}
use Rattle.ckrt_disk.specs.Lists.{IsBeginningOf}
use Rattle.ckrt_schedule.specs.Turns.{given_among, turns_within}
use Rattle.ckrt_stored.specs.Programs.{Program, RecoversToStart, state_after}
use Rattle.ckrt_drive.specs.ByPlan.{Course, IsByPlanFrom}
use Rattle.ckrt_drive.specs.Drives.{AllKeep, AllOnCourse, AllToldByRecord, ComeBehind, IsDrive, OneDrive, course_of}
use Rattle.ckrt_drive.specs.Together.{Past, StandsFed}
use Rattle.ckrt_drive.specs.Turns.{HasWindow, Window}
use Rattle.ckrt_witness.specs.Drives.{IsReopened}

-- There was a drive of this disk onto this output, without an input, by this course; a stop comes behind its last step.
pub record DroveAlone {D O : Type 0} (d : Ghosts D) (o : Ghosts O) (course : Course) (start : D)
    (output : O) (end : D) (left : O) : Type 0 where
  pub drive : OneDrive d o
  pub is : IsDrive drive
  pub begins : drive.start ≡ start
  pub opens : drive.first.output ≡ output
  pub unfed : drive.file ≡ None
  pub on : course_of drive ≡ course
  pub stops : drive.at ≡ drive.last
  pub ends : drive.last.session.disk ≡ end
  pub leaves : drive.last.output ≡ left

-- and as it began thread 1 was ready, and it made so many events
pub record MakesTurns {D O : Type 0} {d : Ghosts D} {o : Ghosts O} (v : OneDrive d o) : Type 0 where
  pub ready : is_ready v.first.session.progress.machine.state.tables.threads 1 ≡ true
  pub many : turns_within v.first.session.progress.config.harts 0 ≤ v.last.session.progress.count

-- Two such drives of a formatted disk, by one course, the second on what a stop behind the first left.
pub record DroveTurns {D O : Type 0} (d : Ghosts D) (o : Ghosts O) (p : Program) : Type 0 where
  pub course : Course
  pub start : D
  pub output : O
  pub end : D
  pub left : O
  pub one : DroveAlone d o course start output end left
  pub turns : MakesTurns one.drive
  pub next : D
  pub opened : O
  pub finish : D
  pub whole : O
  pub other : DroveAlone d o course next opened finish whole
  pub honest : (x : D) → d.is_honest x
  pub formatted : RecoversToStart p (d.content start)
  pub settled : (i : ℕ) → ¬ d.pending start i
  pub durable : (i : ℕ) → ¬ o.pending output i
  pub disk_again : IsReopened d end next
  pub output_again : IsReopened o left opened

-- two drives for which all premises hold; in the list of the first one thread 1 is ready before as many events as the promise speaks of
pub record DriveTurnsWitness {D O : Type 0} (d : Ghosts D) (o : Ghosts O) : Type 0 where
  pub course : Course
  pub past : Past
  pub first : OneDrive d o
  pub second : OneDrive d o
  pub some_harts : 1 ≤ past.program.config.harts
  pub begins : IsBeginningOf [] past.acknowledged
  pub by_plan : IsByPlanFrom course past.program [] past.accepted
  pub on_course : AllOnCourse course (first ∷ second ∷ [])
  pub fed : StandsFed d course.file past first.start
  pub told : AllToldByRecord (first ∷ second ∷ [])
  pub behind : ComeBehind first (second ∷ [])
  pub keep : AllKeep past (first ∷ second ∷ [])
  pub window : Window
  pub has : HasWindow [] keep.0.all window
  pub ready : is_ready (state_after past.program window.before).tables.threads 1 ≡ true
  pub many : turns_within past.program.config.harts (given_among window.events) ≤ length window.events
