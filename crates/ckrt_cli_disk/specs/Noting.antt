-- The schedule of a drive's words, beside the one that its disk notes; and what noting it does.
use Rattle.std.specs.Prelude.{◌≡◌, ◌≢◌, ◌⊎◌, List, ℕ, true, false, Option, Some, None, Result, OnOk}
use Rattle.ckrt_disk.specs.declared.disk.DeviceFault.{DeviceFault}
use Rattle.ckrt_disk.specs.declared.disk.Disk.{Ghosts}
use Rattle.ckrt_stored.specs.declared.config.Config.{Config}
use Rattle.ckrt_stored.specs.Filling.{WritesOnly}
use Rattle.ckrt_stored.specs.Schedules.{LeavesNoting, NotesAt, noted_after, schedule_of}
use Rattle.ckrt_stored.specs.declared.schedule.ScheduleNote.{ScheduleNote}
use Rattle.ckrt_cli_words.specs.Jobs.{Driving}
use Rattle.ckrt_cli_reports.specs.declared.fault.JobFault.{JobFault}
use Rattle.ckrt_cli_reports.specs.declared.fault.JobFault.TheVariants as job
use Rattle.ckrt_cli_disk.specs.Sizes.{other_sizes}

-- THE SCHEDULE OF THE WORDS

abbrev pub asked_schedule : Driving → ScheduleNote
asked_schedule j = record { turn = j.turn; seed = j.seed }

-- A drive by these words is refused by what its disk notes: that is another schedule, and the words don't say that this is meant.
pub record RefusesSchedule (j : Driving) (noted : Option ScheduleNote) (fault : JobFault)
    : Type 0 where
  pub other : ScheduleNote
  pub is_noted : noted ≡ Some other
  pub differs : other ≢ asked_schedule j
  pub unmeant : j.other_schedule ≡ false
  pub is : fault ≡ job.ScheduleDiffers (record { disk = other; words = asked_schedule j })

-- why it is refused, if it is
abbrev pub AnswersSchedule : Driving → (noted : Option ScheduleNote) → Option JobFault → Type 0
AnswersSchedule j noted None =
    (j.other_schedule ≡ true) ⊎ (noted ≡ None) ⊎ (noted ≡ Some (asked_schedule j))
AnswersSchedule j noted (Some fault) = RefusesSchedule j noted fault

-- WHETHER A DISK FITS THE WORDS

-- the same of a disk whose sizes were compared first
abbrev pub AnswersFitting : Driving → (other : Option Config) → (noted : Option ScheduleNote)
    → Option JobFault → Type 0
AnswersFitting j (Some other) noted answer = answer ≡ Some (job.SizesDiffer other)
AnswersFitting j None noted answer = AnswersSchedule j noted answer

-- why a disk with this content isn't driven by these words, if it isn't: its sizes, or else its schedule
abbrev pub FitsWords : Driving → (image : List ℕ) → Option JobFault → Type 0
FitsWords j image answer =
    AnswersFitting j (other_sizes j.sizes image) (schedule_of image) answer

-- NOTING

-- A schedule was noted on a disk, unless it was before, or a call of the disk failed.
pub record Notes {D : Type 0} (d : Ghosts D) (s : ScheduleNote) (old new : D)
    (answer : Result (Unit {0}) DeviceFault) : Type 0 where
  -- whatever a stop of it leaves notes what was noted before, or this one
  pub any_moment : LeavesNoting s d old new
  -- it was written where notes stand, and nowhere else
  pub within : WritesOnly d NotesAt old new answer
  pub noted : OnOk answer
      (d.is_honest new → schedule_of (d.content new) ≡ noted_after s (d.content old))
