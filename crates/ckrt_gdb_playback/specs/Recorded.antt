-- A recorded run that nobody has replayed: a state and the events from there on, and a stage on the way.
use Rattle.std.specs.Prelude.{◌≡◌, ◌+◌, ℕ, List, length, Option, Some, None}
use Rattle.ckrt_events.specs.declared.event.Event.{Event}
use Rattle.ckrt_machine.specs.Events.{AllAccepted}
use Rattle.ckrt_machine.specs.Steps.{State}
use Rattle.ckrt_gdb_history.specs.declared.room.TheConstants.{MORE_EVENTS}
use Rattle.ckrt_gdb_history.specs.Positions.{History, at_event, state_before}

-- behind so many events the run is to be in this state
pub record Stage : Type 0 where
  pub events : ℕ
  pub state : State

pub record Run : Type 0 where
  pub start : State
  pub events : List Event
  pub stage : Option Stage

-- its history, at its beginning, which may get some events more
abbrev pub run_of : Run → History
run_of r =
    record {
      start = r.start;
      events = r.events;
      position = at_event 0;
      most = length r.events + MORE_EVENTS;
    }

-- the plain fold of the events comes through a stage, if there is one
abbrev pub ComesThrough : Option Stage → List Event → State → Type 0
ComesThrough None es s = Unit {0}
ComesThrough (Some stage) es s = state_before stage.events es s ≡ stage.state

-- each event is accepted at its turn, and they come through the stage
pub record IsSound (r : Run) : Type 0 where
  pub accepted : AllAccepted r.events r.start
  pub through : ComesThrough r.stage r.events r.start
