-- Lists of events by plan: each event is the one that the plan has next where it stands.
use Rattle.std.specs.Prelude.{◌≡◌, ◌⊎◌, ℕ, List, [], ◌∷◌, ◌++◌, length, Option}
use Rattle.ckrt_schedule.specs.Next.{given_in}
use Rattle.ckrt_schedule.specs.declared.schedule.Schedule.{Schedule}
use Rattle.ckrt_schedule.specs.Schedules.{next_event}
use Rattle.ckrt_schedule.specs.declared.next.Next.{Next}
use Rattle.ckrt_schedule.specs.declared.next.Next.TheVariants.{Submit, End}
use Rattle.ckrt_schedule.specs.declared.next.ScheduleEnd.{ScheduleEnd}
use Rattle.ckrt_events.specs.declared.event.Event.{Event}
use Rattle.ckrt_stored.specs.Programs.{Program, state_after}
use Rattle.ckrt_schedule.specs.Taken.{taken_by}
use Rattle.ckrt_disk.specs.Lists.{IsBeginningOf}

-- by what the events of drives are chosen: their schedule, and the bytes of their input, where they have one
pub record Course : Type 0 where
  pub schedule : Schedule
  pub file : Option (List ℕ)

abbrev pub course : Schedule → (file : Option (List ℕ)) → Course
course u file = record { schedule = u; file = file }

-- what is next after these events of a program: what the input gives after those that they took, and else what the schedule has
abbrev pub next_behind : Course → Program → List Event → Next
next_behind u p events =
    next_event u.schedule (given_in u.file (taken_by events) (state_after p events).tables)
    (length events) (state_after p events).tables

-- after some events each of these is the next one
abbrev pub AreByPlan : Course → Program → (behind : List Event) → List Event → Type 0
AreByPlan u p behind [] = Unit {0}
AreByPlan u p behind (e ∷ es) =
    (next_behind u p behind ≡ Submit e) × AreByPlan u p (behind ++ e ∷ []) es

-- a list goes on by plan after its first events
pub record IsByPlanFrom (u : Course) (p : Program) (first events : List Event) : Type 0 where
  pub rest : List Event
  pub is : events ≡ first ++ rest
  pub by_plan : AreByPlan u p first rest

-- the whole of it is by plan
abbrev pub IsByPlan : Course → Program → List Event → Type 0
IsByPlan u p events = IsByPlanFrom u p [] events

-- nothing is next after these events
abbrev pub IsOver : Course → Program → List Event → Type 0
IsOver u p events = (ending : ScheduleEnd) × (next_behind u p events ≡ End ending)

-- the list of a drive that nothing stops
pub record IsUnbroken (u : Course) (p : Program) (first events : List Event) : Type 0 where
  pub by_plan : IsByPlanFrom u p first events
  pub over : IsOver u p events

-- THERE IS ONE LIST

-- of two lists that go on by plan after the same events, one is a beginning of the other
abbrev pub AreOneList : Type 0
AreOneList =
    (u : Course) (p : Program) (first events others : List Event) → IsByPlanFrom u p first events
    → IsByPlanFrom u p first others → IsBeginningOf events others ⊎ IsBeginningOf others events

-- each is a beginning of the unbroken one
abbrev pub AreOfTheUnbroken : Type 0
AreOfTheUnbroken =
    (u : Course) (p : Program) (first events whole : List Event) → IsByPlanFrom u p first events
    → IsUnbroken u p first whole → IsBeginningOf events whole

-- and two unbroken ones are the same
abbrev pub IsUnbrokenOnce : Type 0
IsUnbrokenOnce =
    (u : Course) (p : Program) (first events whole : List Event) → IsUnbroken u p first events
    → IsUnbroken u p first whole → events ≡ whole
