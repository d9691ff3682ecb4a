-- Turns in drives: what goes on by plan gives each ready thread its turn and takes the clock on, whatever was stopped when.
use Rattle.std.specs.Prelude.{◌≡◌, ◌≤◌, ◌+◌, ◌*◌, ℕ, List, [], ◌∷◌, ◌++◌, length, true}
use Rattle.ckrt_disk.specs.declared.disk.Disk.{Ghosts}
use Rattle.ckrt_thread.specs.State.{is_ready}
use Rattle.ckrt_events.specs.declared.event.Event.{Event}
use Rattle.ckrt_schedule.specs.Turns.{IsPlacedAmong, given_among, turns_within}
use Rattle.ckrt_stored.specs.Programs.{Program, state_after}
use Rattle.ckrt_disk.specs.Lists.{IsBeginningOf}
use Rattle.ckrt_drive.specs.ByPlan.{Course, IsByPlanFrom}
use Rattle.ckrt_drive.specs.Drives.{AllKeep, AllOnCourse, AllToldByRecord, ComeBehind, OneDrive, past_behind}
use Rattle.ckrt_drive.specs.Together.{Past, StandsFed}

-- some events of a list in a row, with those before and those behind
pub record Window : Type 0 where
  pub before : List Event
  pub events : List Event
  pub behind : List Event

-- the list has them there, behind its first events
pub record HasWindow (first all : List Event) (w : Window) : Type 0 where
  pub is : all ≡ w.before ++ (w.events ++ w.behind)
  pub begins : IsBeginningOf first w.before

-- a thread that is ready before so many events is put onto a hart by one of them
abbrev pub PlacesReady : Program → (first all : List Event) → Type 0
PlacesReady p first all =
    (w : Window) (t : ℕ) → HasWindow first all w → 1 ≤ t → t ≤ 64
    → is_ready (state_after p w.before).tables.threads t ≡ true
    → turns_within p.config.harts (given_among w.events) ≤ length w.events
    → IsPlacedAmong t w.events

-- a moment that is d ticks away is reached within so many events
abbrev pub TakesClockOn : Program → (first all : List Event) → Type 0
TakesClockOn p first all =
    (w : Window) (d : ℕ) → HasWindow first all w
    → (d + given_among w.events) * (2 * p.config.harts + 1) ≤ length w.events
    → (state_after p w.before).tables.clock + d
    ≤ (state_after p (w.before ++ w.events)).tables.clock

pub record GivesTurns (p : Program) (first all : List Event) : Type 0 where
  pub places : PlacesReady p first all
  pub clock : TakesClockOn p first all

-- a list that goes on by plan after its first events does both
abbrev pub PlansGiveTurns : Type 0
PlansGiveTurns =
    (u : Course) (p : Program) (first all : List Event) → 1 ≤ p.config.harts
    → IsByPlanFrom u p first all → GivesTurns p first all

-- and so does the list of each of these drives
abbrev pub AllGiveTurns : {D O : Type 0} {d : Ghosts D} {o : Ghosts O} → (first : List Event)
    → (h : Past) → (drives : List (OneDrive d o)) → AllKeep h drives → Type 0
AllGiveTurns first h [] keep = Unit {0}
AllGiveTurns first h (v ∷ more) keep =
    GivesTurns h.program first keep.0.all × AllGiveTurns first (past_behind v keep.0) more keep.1

-- Drives by one schedule with one input, each told what the record says, after events that go on by plan from the first on: those of which
-- `GoByPlan` says that the list of each goes on by plan, each stopped at any moment.
abbrev pub DrivesGiveTurns : {D O : Type 0} → Ghosts D → Ghosts O → Type 0
DrivesGiveTurns d o =
    (u : Course) (first : List Event) (h : Past) (v : OneDrive d o) (more : List (OneDrive d o))
    → 1 ≤ h.program.config.harts → IsBeginningOf first h.acknowledged
    → IsByPlanFrom u h.program first h.accepted → AllOnCourse u (v ∷ more)
    → StandsFed d u.file h v.start → AllToldByRecord (v ∷ more) → ComeBehind v more
    → (keep : AllKeep h (v ∷ more)) → AllGiveTurns first h (v ∷ more) keep
