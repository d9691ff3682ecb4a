-- What holds of a machine that goes through events.
use Rattle.std.specs.Prelude.{◌≡◌, ◌+◌, ◌<◌, ◌≤◌, ℕ, List, [], ◌∷◌, length, vec_capacity}
use Rattle.ckrt_events.specs.declared.event.Event.{Event}
use Rattle.ckrt_calls.specs.WellFormed.{IsWellFormed}
use Rattle.ckrt_machine.specs.Steps.{State}
use Rattle.ckrt_machine.specs.Events.{AllAccepted, IsAccepted, Machine, step}
use Rattle.ckrt_gdb_history.specs.declared.position.Position.{Position}
use Rattle.ckrt_gdb_history.specs.declared.kept.Spare.{Spare}
use Rattle.ckrt_gdb_history.specs.declared.room.Room.{Room}
use Rattle.ckrt_gdb_history.specs.declared.room.TheConstants.{MORE_EVENTS}
use Rattle.ckrt_gdb_history.specs.Positions.{History, IsPosition, at_event, into_run, run_in, state_at, state_before, steps_of}
use Rattle.ckrt_gdb_history.specs.Pool.{Snapshot, Snapshots}

-- in how many steps each of the events is done
abbrev pub steps_through : List Event → State → List ℕ
steps_through [] s = []
steps_through (e ∷ es) s = steps_of e s ∷ steps_through es (step e s).state

-- a machine has made some steps of an event that was accepted in this state, and more are to come
pub record IsInto (made : ℕ) (e : Event) (s : State) (m : Machine) : Type 0 where
  pub accepted : IsAccepted e s
  pub few : made < steps_of e s
  pub state : m.state ≡ (into_run made (run_in e) s).state
  -- what the run has put counts until it is over
  pub output : 0 < made → m.output ≡ (into_run made (run_in e) s).output

-- a machine is at a position of events that are accepted, each at its turn
pub record IsAt (m : Machine) (p : Position) (es : List Event) (s : State) : Type 0 where
  pub accepted : AllAccepted es s
  pub position : IsPosition p es s
  pub state : m.state ≡ (state_at p es s).state
  -- what the run under way has put counts until it is over
  pub output : 0 < p.steps → m.output ≡ (state_at p es s).output

-- the state in the spare room for one
abbrev pub spare_state : Spare → State
spare_state r = record { bytes = r.memory.bytes; tables = r.tables }

-- a state has as many bytes and harts as another
pub record IsAlike (r s : State) : Type 0 where
  pub size : length r.bytes ≡ length s.bytes
  pub harts : r.tables.threads.hart_count ≡ s.tables.threads.hart_count

-- a machine is before an event, or behind the last
pub record IsBeforeEvent (k : ℕ) (m : Machine) (es : List Event) (s : State) : Type 0 where
  pub events : k ≤ length es
  pub state : m.state ≡ state_before k es s
  pub size : length m.state.bytes ≡ length s.bytes

-- inside a run it has put no byte yet
abbrev pub IsSilent : Machine → Position → Type 0
IsSilent m p = 0 < p.steps → m.output ≡ []

-- the state of a machine at a position may be kept
pub record CanBeKept (m : Machine) (p : Position) (es : List Event) (s : State) : Type 0 where
  pub at : IsAt m p es s
  pub silent : IsSilent m p
  pub size : length m.state.bytes ≡ length s.bytes

-- what is kept is the state at a position, which is before an event or where the run has put no byte yet
pub record IsSnapshot (k : Snapshot) (es : List Event) (s : State) : Type 0 where
  pub events : k.position.events ≤ length es
  pub within : 0 < k.position.steps → IsPosition k.position es s
  pub state : k.state ≡ (state_at k.position es s).state
  pub silent : 0 < k.position.steps → (state_at k.position es s).output ≡ []
  pub well_formed : IsWellFormed k.state.tables
  pub alike : IsAlike k.state s

abbrev pub AreSnapshots : List Snapshot → List Event → State → Type 0
AreSnapshots [] es s = Unit {0}
AreSnapshots (k ∷ ks) es s = IsSnapshot k es s × AreSnapshots ks es s

-- the state of the beginning, at the first position
abbrev pub beginning_of : State → Snapshot
beginning_of s = record { position = at_event 0; state = s }

-- states may have been forgotten: what is kept is still of the same history
pub record StayKept (old new : Snapshots) : Type 0 where
  pub start : new.start ≡ old.start
  pub count : length new.kept ≡ length old.kept
  pub kept : (es : List Event) → AreSnapshots old.kept es old.start → AreSnapshots new.kept es old.start

-- room for a history of so many events from a state on, and of some more, which have that many places: the state is kept, and stands at
-- each place for another
pub record IsRoomFor (count places : ℕ) (s : State) (room : Room) : Type 0 where
  pub start : room.snapshots.start ≡ s
  pub kept : (es : List Event) → AreSnapshots room.snapshots.kept es s
  pub spare : IsAlike (spare_state room.spare) s
  pub steps : room.steps.items ≡ []
  pub enough : vec_capacity room.steps ≡ count + MORE_EVENTS
  pub places_are : vec_capacity room.steps ≤ places

-- a history's parts between two calls: its machine, the steps of each event, what is kept, room for a state, and places for events
pub record IsWhole (h : History) (m : Machine) (steps : List ℕ) (kept : List Snapshot) (spare : State)
    (places : ℕ) : Type 0 where
  pub well_formed : IsWellFormed h.start.tables
  pub at : IsAt m h.position h.events h.start
  pub size : length m.state.bytes ≡ length h.start.bytes
  pub steps_are : steps ≡ steps_through h.events h.start
  pub kept_are : AreSnapshots kept h.events h.start
  pub spare_is : IsAlike spare h.start
  pub fits : length h.events ≤ h.most
  pub places_are : h.most ≤ places
