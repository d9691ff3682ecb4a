-- A run that is kept on a disk: a session takes the events of its schedule, one after another, and acknowledges them all.
use Rattle.std.specs.Prelude.{◌≡◌, Bool, true, false, List, [], ◌∷◌, Some, Result, IfOk, IfErr, OnOk}
use Rattle.ckrt_disk.specs.declared.disk.Disk.{Ghosts}
use Rattle.ckrt_events.specs.declared.event.Event.{Event}
use Rattle.ckrt_machine.specs.declared.event.Answer.{Answer}
use Rattle.ckrt_machine.specs.declared.event.Refusal.TheVariants.{OutputFull}
use Rattle.ckrt_machine.specs.Events.{step}
use Rattle.ckrt_recovery.specs.declared.fault.SubmitFault.{SubmitFault}
use Rattle.ckrt_recovery.specs.declared.fault.SubmitFault.TheVariants as submit
use Rattle.ckrt_recovery.specs.declared.session.Session.{Session}
use Rattle.ckrt_recovery.specs.View.{refusal_of, view_of}
use Rattle.ckrt_recovery.specs.Accepts.{Accepts}
use Rattle.ckrt_schedule.specs.declared.next.Next.TheVariants.{Submit, End}
use Rattle.ckrt_schedule.specs.declared.next.ScheduleEnd.{ScheduleEnd}
use Rattle.ckrt_hunt_schedules.specs.declared.keeping.KeepFault.{KeepFault}
use Rattle.ckrt_hunt_schedules.specs.declared.keeping.KeepFault.TheVariants.{Device, Refused}
use Rattle.ckrt_hunt_schedules.specs.declared.made.Made.{Made}
use Rattle.ckrt_hunt_schedules.specs.declared.plan.Plan.{Plan}
use Rattle.ckrt_hunt_schedules.specs.Runs.{AreScheduled, Point, beginning, behind, next_at, on}

-- the session took the event, and its machine answered so
pub record IsTaken {D : Type 0} {g : Ghosts D} (e : Event) (old new : Session D g) (answer : Answer)
    : Type 0 where
  pub accepts : Accepts (e ∷ []) old new
  pub state : new.progress.machine.state ≡ (step e old.progress.machine.state).state
  pub answered : answer ≡ (step e old.progress.machine.state).answer

-- whether a commit may make room for an event that is refused so
abbrev pub commit_makes_room : SubmitFault → Bool
commit_makes_room submit.BatchFull = true
commit_makes_room (submit.Refused OutputFull) = true
commit_makes_room (submit.Refused _) = false
commit_makes_room submit.Failed = false
commit_makes_room submit.NeedsCheckpoint = false
commit_makes_room submit.JournalFull = false
commit_makes_room submit.CountersUsed = false

-- a commit makes no more room: all events are acknowledged, and no output is held
pub record IsEmptied {D : Type 0} {g : Ghosts D} (s : Session D g) : Type 0 where
  pub acknowledged : s.acknowledged ≡ s.progress.count
  pub dropped : s.progress.confirmed ≡ s.released

-- the session refuses the event so, also behind a commit where that may make room
pub record IsRefusedSo {D : Type 0} {g : Ghosts D} (e : Event) (s : Session D g) (why : SubmitFault)
    : Type 0 where
  pub refused : refusal_of (view_of s) e ≡ Some why
  pub emptied : commit_makes_room why ≡ true → IsEmptied s

-- the disk has failed, or the session refuses the event so
abbrev pub IsWhy : {D : Type 0} {g : Ghosts D} → Event → Session D g → KeepFault → Type 0
IsWhy e s Device = s.failed ≡ true
IsWhy e s (Refused why) = IsRefusedSo e s why

-- the session took no event, and its program is as it was
pub record IsLeft {D : Type 0} {g : Ghosts D} (e : Event) (old new : Session D g) (why : KeepFault)
    : Type 0 where
  pub accepts : Accepts [] old new
  pub machine : new.progress.machine ≡ old.progress.machine
  pub reason : IsWhy e new why

-- an event was handed in
pub record Takes {D : Type 0} {g : Ghosts D} (e : Event) (old new : Session D g)
    (result : Result Answer KeepFault) : Type 0 where
  pub ok : IfOk result (IsTaken e old new)
  pub err : IfErr result (IsLeft e old new)

-- where a session stands in a run of which it has taken these events
abbrev pub point_of : {D : Type 0} {g : Ghosts D} → Made → Session D g → Point
point_of m s = record { made = m; state = s.progress.machine.state }

-- the session took the event, and its run went on by it
pub record GoesOn {D : Type 0} {g : Ghosts D} (p : Plan) (e : Event) (old new : Session D g) (m m' : Made)
    : Type 0 where
  pub accepts : Accepts (e ∷ []) old new
  pub point : point_of m' new ≡ on p e (point_of m old)

-- From old to new the session took the events of the schedule so far.
pub record HasKept {D : Type 0} {g : Ghosts D} (p : Plan) (old new : Session D g) (m : Made)
    : Type 0 where
  pub events : List Event
  pub scheduled : AreScheduled p events (beginning old.progress.machine.state)
  pub accepts : Accepts events old new
  pub point : point_of m new ≡ behind p events (beginning old.progress.machine.state)

-- why a run isn't kept whole: its next event isn't taken, or the last commit failed
abbrev pub IsWhyNotWhole : {D : Type 0} {g : Ghosts D} → Plan → Point → Session D g → KeepFault → Type 0
IsWhyNotWhole p x s Device = s.failed ≡ true
IsWhyNotWhole p x s (Refused why) = (e : Event) × (next_at p x ≡ Submit e) × IsRefusedSo e s why

-- A run by the plan, from where the session stands: it took these events, which are those of the schedule. With Ok they are all, and are
-- acknowledged.
pub record KeepsRun {D : Type 0} {g : Ghosts D} (p : Plan) (old new : Session D g)
    (result : Result ScheduleEnd KeepFault) : Type 0 where
  pub events : List Event
  pub scheduled : AreScheduled p events (beginning old.progress.machine.state)
  pub accepts : Accepts events old new
  pub ended : IfOk result (λ ending.
      next_at p (behind p events (beginning old.progress.machine.state)) ≡ End ending)
  pub saved : OnOk result (new.acknowledged ≡ new.progress.count)
  pub err : IfErr result
      (IsWhyNotWhole p (behind p events (beginning old.progress.machine.state)) new)
