-- Drives of one disk onto one output, one after another, each but the last stopped at any moment.
use Rattle.std.specs.Prelude.{◌≡◌, ◌⊎◌, ℕ, List, [], ◌∷◌, length, take, IfSome, Option, Ok, Some}
use Rattle.ckrt_disk.specs.declared.disk.Disk.{Ghosts}
use Rattle.ckrt_drive.specs.Output.{HoldsOutput, acknowledged_output}
use Rattle.ckrt_drive.specs.Plan.{schedule_of}
use Rattle.ckrt_drive.specs.Runs.{IsAllSaved}
use Rattle.ckrt_drive.specs.Stages.{AreSupplied, GoesThrough, IsOver, Stage}
use Rattle.ckrt_drive.specs.declared.options.Options.{Options}
use Rattle.ckrt_schedule.specs.declared.next.ScheduleEnd.{ScheduleEnd}
use Rattle.ckrt_schedule.specs.declared.next.ScheduleEnd.TheVariants.{Enough}
use Rattle.ckrt_events.specs.declared.event.Event.{Event}
use Rattle.ckrt_stored.specs.Programs.{RecoversTo, output_after}
use Rattle.ckrt_schedule.specs.Taken.{taken_by}
use Rattle.ckrt_recovery.specs.Recovered.{IsRecovered}
use Rattle.ckrt_drive.specs.Offset.{offset_from}
use Rattle.ckrt_disk.specs.Lists.{IsBeginningOf}
use Rattle.ckrt_recovery.specs.Represents.{Represents}
use Rattle.ckrt_recovery.specs.View.{view_of}
use Rattle.ckrt_drive.specs.ByPlan.{Course, IsByPlanFrom, IsUnbroken, course}
use Rattle.ckrt_drive.specs.Together.{IsLeftSince, IsSpared, Past, StandTogether, StandsFed, StandsRecorded, past}

-- ONE DRIVE

-- a stop within the step from `at` on, which is one of these, left a disk and an output; or it came after the last
abbrev pub StopLeaves : {D O : Type 0} {d : Ghosts D} {o : Ghosts O} → List (Stage d o)
    → (x at : Stage d o) → D → O → Type 0
StopLeaves {d = d} {o = o} [] x at disk output = (at ≡ x) × IsLeftSince d x.session.disk x.session.disk disk × IsLeftSince o x.output x.output output
StopLeaves {d = d} {o = o} (z ∷ more) x at disk output = ((at ≡ x) × IsLeftSince d x.session.disk z.session.disk disk × IsLeftSince o x.output z.output output) ⊎ StopLeaves more z at disk output

-- a drive: the disk that it recovered, the bytes of its input, if it has one, its stages, and the one at which it was stopped
pub record OneDrive {D O : Type 0} (d : Ghosts D) (o : Ghosts O) : Type 0 where
  pub start : D
  pub options : Options
  pub file : Option (List ℕ)
  pub first : Stage d o
  pub stages : List (Stage d o)
  pub last : Stage d o
  pub at : Stage d o

pub record IsDrive {D O : Type 0} {d : Ghosts D} {o : Ghosts O} (v : OneDrive d o) : Type 0 where
  pub recovered : IsRecovered d v.start v.first.session
  pub goes : GoesThrough v.options v.stages v.first v.last
  pub supplied : AreSupplied v.options v.file v.stages v.first v.last goes
  pub honest : d.is_honest v.last.session.disk
  pub output_honest : o.is_honest v.last.output

-- by what its events are chosen
abbrev pub course_of : {D O : Type 0} {d : Ghosts D} {o : Ghosts O} → OneDrive d o → Course
course_of v = course (schedule_of v.options) v.file

-- where there is an input, these events took that many bytes of it
abbrev pub IsTold : (file : Option (List ℕ)) → (taken : ℕ) → List Event → Type 0
IsTold file taken events = IfSome file (λ bytes. taken ≡ taken_by events)

-- a drive was told the offset that is read of the disk which it recovered, whatever the caller said besides
abbrev pub IsToldByRecord : {D O : Type 0} {d : Ghosts D} {o : Ghosts O} → OneDrive d o → Type 0
IsToldByRecord {d = d} v =
    IfSome v.file (λ bytes. (said : Option ℕ)
    × (offset_from said (d.content v.start) ≡ Ok (Some v.first.taken)))

-- What a drive keeps of what its disk and its output held together before it.
pub record Keeps {D O : Type 0} {d : Ghosts D} {o : Ghosts O} (h : Past) (v : OneDrive d o)
    : Type 0 where
  -- the events that it recovered: the acknowledged ones before, and perhaps more of those that were accepted
  pub opened : List Event
  pub begins : IsBeginningOf h.acknowledged opened
  pub within : IsBeginningOf opened h.accepted
  pub from : ℕ
  pub recovers : RecoversTo h.program opened from (d.content v.start)
  -- the events that its session represents in the end: after these its own
  pub all : List Event
  pub represents : Represents h.program all v.last.session
  -- each is the one that its plan had next, where it was told what those that it recovered took; and it knows what they took then
  pub by_plan : IsTold v.file v.first.taken opened
      → IsByPlanFrom (course_of v) h.program opened all
  pub taken : IsTold v.file v.first.taken opened → IsTold v.file v.last.taken all
  -- what was acknowledged before stays so
  pub still : (at : Stage d o) (disk : D) (output : O) → StopLeaves v.stages v.first at disk output
      → IsBeginningOf h.acknowledged (take at.session.acknowledged all)
  -- whatever a stop leaves holds together again, between the events that were acknowledged at the stage and all of these
  pub any_moment : (at : Stage d o) (disk : D) (output : O)
      → StopLeaves v.stages v.first at disk output
      → StandTogether d o (past h.program h.old (take at.session.acknowledged all) all) disk output
  -- with an input: where all that was left before keeps what its events took, and the drive was told how much, this keeps it too
  pub fed : StandsFed d v.file h v.start → IsTold v.file v.first.taken opened
      → (at : Stage d o) (disk : D) (output : O) → StopLeaves v.stages v.first at disk output
      → StandsFed d v.file (past h.program h.old (take at.session.acknowledged all) all) disk
  -- where all that was left before has recorded its events, so has this
  pub recorded : StandsRecorded d h v.start → (at : Stage d o) (disk : D) (output : O)
      → StopLeaves v.stages v.first at disk output
      → StandsRecorded d (past h.program h.old (take at.session.acknowledged all) all) disk
  -- the output holds, durably, what is confirmed of the plain fold's output, and after what is released the old bytes
  pub holds : HoldsOutput o 0 v.last.session.progress.confirmed
      (acknowledged_output h.program all v.last.session) v.last.output
  pub spares : IsSpared o v.last.session.released h.old v.last.output
  -- where all is saved, as at an end, it holds the whole of it, and after it the old bytes
  pub whole : IsAllSaved (view_of v.last.session)
      → HoldsOutput o 0 (length (output_after h.program all)) (output_after h.program all)
      v.last.output
      × IsSpared o (length (output_after h.program all)) h.old v.last.output

-- MANY

-- each drive begins with what a stop of the one before left
abbrev pub ComeBehind : {D O : Type 0} {d : Ghosts D} {o : Ghosts O} → OneDrive d o
    → List (OneDrive d o) → Type 0
ComeBehind v [] = Unit {0}
ComeBehind v (w ∷ more) =
    StopLeaves v.stages v.first v.at w.start w.first.output × IsDrive w × ComeBehind w more

-- what came before the next one
abbrev pub past_behind : {D O : Type 0} {d : Ghosts D} {o : Ghosts O} {h : Past} (v : OneDrive d o)
    → Keeps h v → Past
past_behind {h = h} v k = past h.program h.old (take v.at.session.acknowledged k.all) k.all

-- each keeps what was acknowledged in those before it
abbrev pub AllKeep : {D O : Type 0} {d : Ghosts D} {o : Ghosts O} → Past → List (OneDrive d o)
    → Type 0
AllKeep h [] = Unit {0}
AllKeep h (v ∷ more) = (k : Keeps h v) × AllKeep (past_behind v k) more

-- WHAT IS RECORDED

-- whatever was left before each has recorded its events
abbrev pub AllStandRecorded : {D O : Type 0} {d : Ghosts D} {o : Ghosts O} → (h : Past)
    → (drives : List (OneDrive d o)) → AllKeep h drives → Type 0
AllStandRecorded h [] keep = Unit {0}
AllStandRecorded {d = d} h (v ∷ more) keep =
    StandsRecorded d h v.start × AllStandRecorded (past_behind v keep.0) more keep.1

-- It is so of each where it is so of the first.
abbrev pub DrivesStandRecorded : {D O : Type 0} → Ghosts D → Ghosts O → Type 0
DrivesStandRecorded d o =
    (h : Past) (v : OneDrive d o) (more : List (OneDrive d o)) → StandsRecorded d h v.start
    → ComeBehind v more → (keep : AllKeep h (v ∷ more)) → AllStandRecorded h (v ∷ more) keep

-- WITH AN INPUT

-- all have this input, or all have none
abbrev pub AllHaveInput : {D O : Type 0} {d : Ghosts D} {o : Ghosts O}
    → (file : Option (List ℕ)) → List (OneDrive d o) → Type 0
AllHaveInput file [] = Unit {0}
AllHaveInput file (v ∷ more) = (v.file ≡ file) × AllHaveInput file more

-- each was told what the record of its disk says
abbrev pub AllToldByRecord : {D O : Type 0} {d : Ghosts D} {o : Ghosts O} → List (OneDrive d o)
    → Type 0
AllToldByRecord [] = Unit {0}
AllToldByRecord (v ∷ more) = IsToldByRecord v × AllToldByRecord more

-- each was told what the events took that it recovered
abbrev pub AllTold : {D O : Type 0} {d : Ghosts D} {o : Ghosts O} → (h : Past)
    → (drives : List (OneDrive d o)) → AllKeep h drives → Type 0
AllTold h [] keep = Unit {0}
AllTold h (v ∷ more) keep =
    IsTold v.file v.first.taken keep.0.opened × AllTold (past_behind v keep.0) more keep.1

-- What the record says is that: where what was left before the drives keeps what its events took, each was told what those took that it
-- recovered.
abbrev pub AreTold : {D O : Type 0} → Ghosts D → Ghosts O → Type 0
AreTold d o =
    (file : Option (List ℕ)) (h : Past) (v : OneDrive d o) (more : List (OneDrive d o))
    → AllHaveInput file (v ∷ more) → StandsFed d file h v.start → AllToldByRecord (v ∷ more)
    → ComeBehind v more → (keep : AllKeep h (v ∷ more)) → AllTold h (v ∷ more) keep

-- BY PLAN

-- all are by this schedule, with this input; events and rounds may differ
abbrev pub AllOnCourse : {D O : Type 0} {d : Ghosts D} {o : Ghosts O} → Course
    → List (OneDrive d o) → Type 0
AllOnCourse u [] = Unit {0}
AllOnCourse u (v ∷ more) = (course_of v ≡ u) × AllOnCourse u more

-- the list of each goes on by plan after these events
abbrev pub AllByPlan : {D O : Type 0} {d : Ghosts D} {o : Ghosts O} → Course
    → (first : List Event) → (h : Past) → (drives : List (OneDrive d o)) → AllKeep h drives → Type 0
AllByPlan u first h [] keep = Unit {0}
AllByPlan u first h (v ∷ more) keep =
    IsByPlanFrom u h.program first keep.0.all × AllByPlan u first (past_behind v keep.0) more keep.1

-- Drives by one schedule with one input, each told what the record says, after events that go on by plan from the first on: so do the events of
-- each.
abbrev pub GoByPlan : {D O : Type 0} → Ghosts D → Ghosts O → Type 0
GoByPlan d o =
    (u : Course) (first : List Event) (h : Past) (v : OneDrive d o) (more : List (OneDrive d o))
    → IsBeginningOf first h.acknowledged → IsByPlanFrom u h.program first h.accepted
    → AllOnCourse u (v ∷ more) → StandsFed d u.file h v.start → AllToldByRecord (v ∷ more)
    → ComeBehind v more → (keep : AllKeep h (v ∷ more)) → AllByPlan u first h (v ∷ more) keep

-- the program came to an end in a drive: all is saved, and its plan has this end next, which isn't for want of events
pub record HasEnded {D O : Type 0} {d : Ghosts D} {o : Ghosts O} (v : OneDrive d o) : Type 0 where
  pub saved : IsAllSaved (view_of v.last.session)
  pub ending : ScheduleEnd
  pub over : IsOver v.options v.file v.last ending
  pub other : ¬ (ending ≡ Enough)

-- Where a drive whose events go on by plan has ended so, they are the unbroken list, and the output is that list's.
abbrev pub EndUnbroken : {D O : Type 0} → Ghosts D → Ghosts O → Type 0
EndUnbroken d o =
    (first whole : List Event) (h : Past) (v : OneDrive d o) (k : Keeps h v)
    → IsByPlanFrom (course_of v) h.program first k.all → StandsFed d v.file h v.start
    → IsToldByRecord v → HasEnded v → IsUnbroken (course_of v) h.program first whole
    → (k.all ≡ whole)
    × HoldsOutput o 0 (length (output_after h.program whole)) (output_after h.program whole)
    v.last.output
