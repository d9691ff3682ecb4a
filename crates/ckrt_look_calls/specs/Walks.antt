-- What comes of something that looks at each step of events: a fold over the steps.
use Rattle.std.specs.Prelude.{ℕ, zero, suc, ◌+◌, List, [], ◌∷◌, Option, Some, None}
use Rattle.ckrt_events.specs.declared.event.Event.{Event}
use Rattle.ckrt_events.specs.declared.event.Event.TheVariants.{Run, RunLong}
use Rattle.ckrt_machine.specs.Events as machine
use Rattle.ckrt_machine.specs.declared.event.RunEnd.{RunEnd}
use Rattle.ckrt_machine.specs.Runs.{Stepping, stop_of, with_byte}
use Rattle.ckrt_machine.specs.Steps.{State, Stepped, hart_step}
use Rattle.ckrt_look_calls.specs.Events.{at}
use Rattle.ckrt_look_calls.specs.declared.lines.Place.{Place}

-- A RUN within its steps: a state, and the bytes that the run has put so far
abbrev pub run_of : machine.Machine → Stepping
run_of m = record { state = m.state; output = m.output }

abbrev pub begun : State → Stepping
begun s = record { state = s; output = [] }

abbrev pub stepped : List ℕ → Stepped → Stepping
stepped out e = record { state = e.state; output = with_byte e.put out }

-- one step further in the same event
abbrev pub next : Place → Place
next p = at p.event (suc p.step)

-- what more is done, unless the run has ended
abbrev pub unless_ended : {A : Type 0} → Option RunEnd → (now more : A) → A
unless_ended None now more = more
unless_ended (Some how) now more = now

-- what comes after a step
abbrev pub after_more : {A : Type 0} → (Stepping → A → A) → (h : ℕ) → Stepping → A → A
after_more more h r w = unless_ended (stop_of h r.state.tables r.output) w (more r w)

-- n steps at most of the thread on hart h, of which the first is at a place. Each makes of what looks at it what f says
abbrev pub after_run : {A : Type 0} → (f : Place → ℕ → State → A → A) → (n h : ℕ) → Place → Stepping → A → A
after_run f zero h p r w = w
after_run f (suc n) h p r w =
    after_more (after_run f n h (next p)) h (stepped r.output (hart_step h r.state)) (f p h r.state w)

-- after a step: n steps more at most, unless it ended the run
abbrev pub after_rest : {A : Type 0} → (f : Place → ℕ → State → A → A) → (n h : ℕ) → Place → Stepping → A → A
after_rest f n h p r w = after_more (after_run f n h p) h r w

-- THE EVENT after the first k. One that is no run has no step
abbrev pub after_event : {A : Type 0} → (f : Place → ℕ → State → A → A) → (k : ℕ) → Event → State → A → A
after_event f k (Run h n) s w = after_run f n h (at k 0) (begun s) w
after_event f k (RunLong h n) s w = after_run f n h (at k 0) (begun s) w
after_event f k e s w = w

-- of events, of which the first comes after k others
abbrev pub after_events : {A : Type 0} → (f : Place → ℕ → State → A → A) → (k : ℕ) → List Event → State → A → A
after_events f k [] s w = w
after_events f k (e ∷ es) s w =
    after_events f (k + 1) es (machine.step e s).state (after_event f k e s w)
