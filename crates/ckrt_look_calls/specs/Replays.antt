-- A recording that is gone over again, and the state at each of its places (this project's choice).
use Rattle.std.specs.Prelude.{◌≡◌, ℕ, ◌-◌, ◌==◌, min, if◌then◌else◌, List, [], ◌∷◌, take, drop, Option, Some, None}
use Rattle.ckrt_events.specs.declared.event.Event.{Event}
use Rattle.ckrt_events.specs.declared.event.Event.TheVariants.{Place as Placing, Run, Input, Eof, Tick, RunLong}
use Rattle.ckrt_machine.specs.Events.{AllAccepted, fold, step}
use Rattle.ckrt_machine.specs.Steps.{State}
use Rattle.ckrt_look_calls.specs.declared.lines.Place.{Place}
use Rattle.ckrt_look_recording.specs.declared.rule.Rule.{Rule}
use Rattle.ckrt_look_calls.specs.declared.replay.Cursor.{Cursor}
use Rattle.ckrt_look_calls.specs.declared.replay.Source.{Source}

-- what is looked at again: events behind the first `count`, from a state on, with the rules by which callers are found
pub record Replay : Type 0 where
  pub rules : List Rule
  pub count : ℕ
  pub events : List Event
  pub start : State

-- as code has it
abbrev pub replay_of : Source → Replay
replay_of d = record {
  rules = d.rules.now;
  count = d.count;
  events = d.events.now;
  start = d.start.now.state;
}

-- each event is accepted at its turn
abbrev pub IsSound : Replay → Type 0
IsSound r = AllAccepted r.events r.start

-- a machine has made so many of its events
abbrev pub IsBehind : Replay → Cursor → Type 0
IsBehind r c = c.machine.state ≡ (fold (take c.made r.events) r.start).state

-- THE STATE AT A PLACE: the events before it are made, and so many steps of the next one

-- a run of so many steps, where that is fewer
abbrev pub run_of : (n h most : ℕ) → Option Event
run_of n h most = if n == 0 then None else Some (RunLong h (min n most))

-- the first steps of an event; one that is no run has none of them made
abbrev pub steps_of : (n : ℕ) → Event → Option Event
steps_of n (Run h most) = run_of n h most
steps_of n (RunLong h most) = run_of n h most
steps_of n (Placing h t) = None
steps_of n (Input bytes) = None
steps_of n Eof = None
steps_of n (Tick k) = None

abbrev pub first_steps : (n : ℕ) → List Event → Option Event
first_steps n [] = None
first_steps n (e ∷ es) = steps_of n e

abbrev pub stepped : Option Event → State → State
stepped None s = s
stepped (Some e) s = (step e s).state

abbrev pub state_at : Place → Replay → State
state_at p r =
    stepped (first_steps p.step (drop (p.event - r.count) r.events))
    (fold (take (p.event - r.count) r.events) r.start).state
