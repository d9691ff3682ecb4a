-- What step after step of a drive makes of the session, of its disk, and of the output.
use Rattle.std.specs.Prelude.{◌≡◌, ◌++◌, ◌≤◌, ◌<◌, ◌-◌, ◌^◌, ℕ, true, List, [], ◌∷◌, length, Result, Ok, Err, Option, Some, None}
use Rattle.ckrt_disk.specs.declared.disk.Disk.{Ghosts}
use Rattle.ckrt_events.specs.declared.event.Event.{Event}
use Rattle.ckrt_stored.specs.Programs.{Program}
use Rattle.ckrt_recovery.specs.declared.session.Session.{Session}
use Rattle.ckrt_recovery.specs.Between.{RecoversBetween}
use Rattle.ckrt_recovery.specs.Represents.{Represents, acknowledged_of}
use Rattle.ckrt_recovery.specs.View.{View, view_of}
use Rattle.ckrt_recovery.specs.Accepts.{Accepts}
use Rattle.ckrt_drive.specs.declared.fault.DriveFault.{DriveFault}
use Rattle.ckrt_drive.specs.declared.fault.DriveFault.TheVariants.{Device, Input, NoRecord, Output, OutputFull, GenerationsUsed, Refused}
use Rattle.ckrt_drive.specs.declared.options.Options.{Options}
use Rattle.ckrt_schedule.specs.declared.next.ScheduleEnd.{ScheduleEnd}
use Rattle.ckrt_schedule.specs.declared.next.ScheduleEnd.TheVariants.{Enough}
use Rattle.ckrt_drive.specs.declared.step_done.StepDone.{StepDone}
use Rattle.ckrt_drive.specs.declared.step_done.StepDone.TheVariants.{Submitted, Committed, Checkpointed, Released, Stopped}
use Rattle.ckrt_drive.specs.declared.supply.Supply.{Supply}
use Rattle.ckrt_drive.specs.Ends.{IsEnd}
use Rattle.ckrt_drive.specs.Output.{HasOutput, HoldsOutput, Writes, acknowledged_output}
use Rattle.ckrt_drive.specs.Plan.{left_after, plan}
use Rattle.ckrt_drive.specs.PutOut.{PutsOutput, is_output_fault}
use Rattle.ckrt_drive.specs.Steps.{accepted_by, view_after}

-- ENDS

-- all events are acknowledged, and all released output is confirmed
pub record IsAllSaved (v : View) : Type 0 where
  pub acknowledged : v.acknowledged ≡ v.recovered.count
  pub confirmed : v.recovered.confirmed ≡ v.released

-- at an end all is saved, and the end is what it says
pub record IsAtEnd (left : ℕ) (v : View) (ending : ScheduleEnd) : Type 0 where
  pub saved : IsAllSaved v
  pub is : IsEnd ending left v.recovered.state.tables

abbrev pub StopsRightly : (left : ℕ) → View → StepDone → Type 0
StopsRightly left v (Submitted e answer) = Unit {0}
StopsRightly left v Committed = Unit {0}
StopsRightly left v Checkpointed = Unit {0}
StopsRightly left v Released = Unit {0}
StopsRightly left v (Stopped ending) = IsAtEnd left v ending

-- STEP BY STEP

-- where a drive stands: how many events are left to it, and what its session shows
pub record Stand : Type 0 where
  pub left : ℕ
  pub view : View

abbrev pub stand : (left : ℕ) → View → Stand
stand left v = record { left = left; view = v }

abbrev pub stand_of : {D : Type 0} {g : Ghosts D} → (left : ℕ) → Session D g → Stand
stand_of left s = stand left (view_of s)

-- after what it did
abbrev pub stand_after : StepDone → Stand → Stand
stand_after did x = record { left = left_after did x.left; view = view_after did x.view }

-- this is planned there, by what the input gave then
abbrev pub IsPlanned : Options → Stand → Result StepDone DriveFault → Type 0
IsPlanned o x planned = (w : Supply) × (w.left ≡ x.left) × (plan o w x.view ≡ planned)

-- it isn't an end
abbrev pub IsOnward : StepDone → Type 0
IsOnward (Submitted e answer) = Unit {0}
IsOnward Committed = Unit {0}
IsOnward Checkpointed = Unit {0}
IsOnward Released = Unit {0}
IsOnward (Stopped ending) = ⊥

-- From one stand to another a drive did these things, each as planned, and none of them was an end.
abbrev pub FollowsPlan : Options → List StepDone → (x y : Stand) → Type 0
FollowsPlan o [] x y = y ≡ x
FollowsPlan o (did ∷ more) x y = IsPlanned o x (Ok did) × IsOnward did
    × FollowsPlan o more (stand_after did x) y

-- the events among them
abbrev pub events_in : List StepDone → List Event
events_in [] = []
events_in (did ∷ more) = accepted_by did ++ events_in more

-- how a drive stands at y that couldn't do what is planned at x
abbrev pub IsFault : Options → (x y : Stand) → DriveFault → Type 0
IsFault o x y Device = y ≡ record x { view = record x.view { failed = true } }
IsFault o x y Input = y ≡ x
IsFault o x y NoRecord = IsPlanned o x (Ok Checkpointed) × (y ≡ x)
IsFault o x y Output = IsPlanned o x (Ok Released) × (y ≡ x)
IsFault o x y OutputFull = IsPlanned o x (Ok Released) × (y ≡ x)
IsFault o x y GenerationsUsed = (x.view.recovered.generation ≡ 2 ^ 64 - 1) × (y ≡ x)
IsFault o x y (Refused why) = IsPlanned o x (Err (Refused why)) × (y ≡ x)

-- Why a drive that may make that many steps makes no more than these, after which it stood at x: it made them all, an end is planned, or it
-- couldn't do what is planned.
abbrev pub IsWhyNoMore : Options → (steps made : ℕ) → (x y : Stand)
    → Result (Option ScheduleEnd) DriveFault → Type 0
IsWhyNoMore o steps made x y (Ok None) = (made ≡ steps) × (y ≡ x)
IsWhyNoMore o steps made x y (Ok (Some ending)) =
    IsPlanned o x (Ok (Stopped ending)) × (y ≡ x) × IsAtEnd y.left y.view ending
IsWhyNoMore o steps made x y (Err fault) = (made < steps) × IsFault o x y fault

-- From x to y a drive took these events, in at most that many steps.
pub record GoesByPlan (o : Options) (steps : ℕ) (accepted : List Event) (x y : Stand)
    (result : Result (Option ScheduleEnd) DriveFault) : Type 0 where
  pub did : List StepDone
  pub last : Stand
  pub follows : FollowsPlan o did x last
  pub few : length did ≤ steps
  pub took : accepted ≡ events_in did
  pub why : IsWhyNoMore o steps (length did) last y result
  -- it had enough where it took as many events as were left for it
  pub enough : result ≡ Ok (Some Enough) → length accepted ≡ x.left

-- WHAT IS LEFT

-- From s to t, with the output from a to b, a drive made at most that many steps by its plan, whatever they answered.
pub record Runs {D O : Type 0} {g : Ghosts D} (o : Ghosts O) (options : Options)
    (steps left left' : ℕ) (s t : Session D g) (a b : O)
    (result : Result (Option ScheduleEnd) DriveFault) : Type 0 where
  -- the events that the session took
  pub accepted : List Event
  pub accepts : Accepts accepted s t
  pub goes : GoesByPlan options steps accepted (stand_of left s) (stand_of left' t) result
  pub writes : Writes o accepted s t a b
  -- what the output was given
  pub puts : PutsOutput o accepted s t a b (is_output_fault result)
  -- it has no room for the released bytes where that is the fault
  pub full : result ≡ Err OutputFull → o.size a < t.released
  -- every image that a stop left of the disk since the start
  pub since_start : g.is_honest t.disk → (p : Program) (events : List Event)
      → Represents p events s → (image : List ℕ) → g.left_since t.disk (g.moment s.disk) image
      → RecoversBetween p (acknowledged_of events s) (events ++ accepted) t.progress.confirmed image
  -- and of the output
  pub output_since_start : g.is_honest t.disk → o.is_honest b
      → (p : Program) (events : List Event) (from : ℕ) → Represents p events s
      → HoldsOutput o from s.progress.confirmed (acknowledged_output p events s) a
      → (image : List ℕ) → o.left_since b (o.moment a) image
      → HasOutput from s.progress.confirmed (acknowledged_output p events s) image
