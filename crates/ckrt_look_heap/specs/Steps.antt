-- What steps, runs and events note.
use Rattle.std.specs.Prelude.{ℕ, zero, suc, ◌+◌, if◌then◌else◌, Bool, true, false, List, [], ◌∷◌, ◌++◌, Option, Some, None}
use Rattle.ckrt_calls.specs.declared.table.Status.{Status}
use Rattle.ckrt_calls.specs.declared.table.Status.TheVariants as status
use Rattle.ckrt_events.specs.declared.event.Event.{Event}
use Rattle.ckrt_events.specs.declared.event.Event.TheVariants.{Run, RunLong}
use Rattle.ckrt_machine.specs.Events as machine
use Rattle.ckrt_machine.specs.declared.event.RunEnd.{RunEnd}
use Rattle.ckrt_machine.specs.Runs.{stop_of, with_byte}
use Rattle.ckrt_machine.specs.Steps.{State, Stepped, hart_of, hart_step}
use Rattle.ckrt_look_recording.specs.Quiet.{is_quiet}
use Rattle.ckrt_look_calls.specs.declared.lines.Place.{Place}
use Rattle.ckrt_look_calls.specs.Steppings.{stepping_of}
use Rattle.ckrt_look_heap.specs.declared.shadow.Note.{Note}
use Rattle.ckrt_look_heap.specs.declared.shadow.Note.TheVariants as note
use Rattle.ckrt_look_heap.specs.Notes.{notes}
use Rattle.ckrt_look_heap.specs.Within.{Noted, noted_all}

-- behind so many events and so many steps of the next one
abbrev pub at : ℕ → ℕ → Place
at k s = record { event = k; step = s }

-- A STEP of the thread on hart h: only a plain one touches memory
abbrev pub of_step : Place → ℕ → State → List Note
of_step p h s =
    if is_quiet (hart_of s.tables h) s then notes (stepping_of p (hart_of s.tables h) s) s else []

-- the shadow after a step
abbrev pub after_step : Place → (h : ℕ) → State → Noted → Noted
after_step p h s w = noted_all (of_step p h s) w

-- A RUN: what more is done, unless it has ended
abbrev pub unless_ended : Option RunEnd → List Note → List Note
unless_ended None more = more
unless_ended (Some how) more = []

-- what is behind a step
abbrev pub behind_step : (State → List ℕ → List Note) → ℕ → List ℕ → Stepped → List Note
behind_step more h out e =
    unless_ended (stop_of h e.state.tables (with_byte e.put out)) (more e.state (with_byte e.put out))

-- n steps at most of the thread on hart h, of which the first is behind `made` of the event, where the bytes out were put before
abbrev pub of_run : (k n made h : ℕ) → State → List ℕ → List Note
of_run k zero made h s out = []
of_run k (suc n) made h s out =
    of_step (at k made) h s ++ behind_step (of_run k n (suc made) h) h out (hart_step h s)

-- behind a step, where the bytes out were put before: n steps more at most
abbrev pub of_rest : (k n made h : ℕ) → State → List ℕ → List Note
of_rest k n made h s out = unless_ended (stop_of h s.tables out) (of_run k n made h s out)

-- THE EVENT behind the first k. One that is no run notes nothing
abbrev pub of_event : ℕ → Event → State → List Note
of_event k (Run h n) s = of_run k n 0 h s []
of_event k (RunLong h n) s = of_run k n 0 h s []
of_event k e s = []

-- THE END: whether the program has ended by then
abbrev pub has_ended : Status → Bool
has_ended status.Running = false
has_ended (status.Exited n) = true
has_ended (status.Faulted t pc c) = true

abbrev pub of_end : State → List Note
of_end s = note.End (has_ended s.tables.status) ∷ []

-- of events, of which the first is behind k others, up to their end
abbrev pub of_events : ℕ → List Event → State → List Note
of_events k [] s = of_end s
of_events k (e ∷ es) s = of_event k e s ++ of_events (k + 1) es (machine.step e s).state
