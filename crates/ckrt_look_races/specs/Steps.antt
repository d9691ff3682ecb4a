-- The operations of steps, of runs and of events.
use Rattle.std.specs.Prelude.{ℕ, zero, suc, ◌+◌, if◌then◌else◌, List, [], ◌∷◌, ◌++◌, Option, Some, None}
use Rattle.ckrt_events.specs.declared.event.Event.{Event}
use Rattle.ckrt_events.specs.declared.event.Event.TheVariants.{Run, RunLong}
use Rattle.ckrt_machine.specs.Events as machine
use Rattle.ckrt_machine.specs.declared.event.RunEnd.{RunEnd}
use Rattle.ckrt_machine.specs.Runs.{stop_of, with_byte}
use Rattle.ckrt_machine.specs.Steps.{State, Stepped, hart_of, hart_step}
use Rattle.ckrt_look_recording.specs.Quiet.{is_quiet}
use Rattle.ckrt_look_calls.specs.Lines.{caller_of}
use Rattle.ckrt_look_clocks.specs.declared.operation.Place.{Place}
use Rattle.ckrt_look_clocks.specs.declared.operation.Operation.{Operation}
use Rattle.ckrt_look_races.specs.Accesses.{accesses}
use Rattle.ckrt_look_races.specs.declared.looking.Before.{Before}
use Rattle.ckrt_look_races.specs.Acting.{acting}
use Rattle.ckrt_look_races.specs.Writers.{writes}
use Rattle.ckrt_look_races.specs.Orders.{between, of_waits}

-- behind so many events and so many steps of the next one
abbrev pub at : ℕ → ℕ → Place
at k s = record { event = k; step = s }

-- what is looked at before the next step of a hart
abbrev pub before_step : ℕ → State → Before
before_step h s = record {
  caller = caller_of (hart_of s.tables h) s;
  is_writer = writes (caller_of (hart_of s.tables h) s) s.tables;
  acting = acting (hart_of s.tables h) s;
  waits = record { items = s.tables.threads.waits };
}

-- A STEP of the thread on hart h: a plain one accesses memory, any other orders
abbrev pub of_step : Place → ℕ → State → List Operation
of_step p h s =
    if is_quiet (hart_of s.tables h) s then accesses p (hart_of s.tables h) s
    else between p (before_step h s) (hart_step h s).state.tables

-- A RUN: what more is done, unless it has ended
abbrev pub unless_ended : Option RunEnd → List Operation → List Operation
unless_ended None more = more
unless_ended (Some how) more = []

-- what is behind a step
abbrev pub behind_step : (State → List ℕ → List Operation) → ℕ → List ℕ → Stepped → List Operation
behind_step more h out e =
    unless_ended (stop_of h e.state.tables (with_byte e.put out)) (more e.state (with_byte e.put out))

-- n steps at most of the thread on hart h, of which the first is behind `made` of the event, where the bytes out were put before
abbrev pub of_run : (k n made h : ℕ) → State → List ℕ → List Operation
of_run k zero made h s out = []
of_run k (suc n) made h s out =
    of_step (at k made) h s ++ behind_step (of_run k n (suc made) h) h out (hart_step h s)

-- behind a step, where the bytes out were put before: n steps more at most
abbrev pub of_rest : (k n made h : ℕ) → State → List ℕ → List Operation
of_rest k n made h s out = unless_ended (stop_of h s.tables out) (of_run k n made h s out)

-- THE EVENT behind the first k. Of one that is no run the waits that it ended
abbrev pub of_other : ℕ → Event → State → List Operation
of_other k e s = of_waits (at k 0) s.tables.threads.waits (machine.step e s).state.tables

abbrev pub of_event : ℕ → Event → State → List Operation
of_event k (Run h n) s = of_run k n 0 h s []
of_event k (RunLong h n) s = of_run k n 0 h s []
of_event k e s = of_other k e s

-- of events, of which the first is behind k others
abbrev pub of_events : ℕ → List Event → State → List Operation
of_events k [] s = []
of_events k (e ∷ es) s = of_event k e s ++ of_events (k + 1) es (machine.step e s).state
