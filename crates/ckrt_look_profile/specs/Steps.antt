-- What is noted of steps, of runs and of events.
use Rattle.std.specs.Prelude.{ℕ, zero, suc, ◌+◌, ◌%◌, ◌^◌, Bool, true, false, if◌then◌else◌, List, [], ◌∷◌, ◌++◌, Option, Some, None}
use Rattle.ckrt_registers.specs.Registers.{Registers}
use Rattle.ckrt_rv32i.specs.Memory.{is_valid, loaded}
use Rattle.ckrt_rv32i.specs.declared.memory_bus.Size.TheVariants as size
use Rattle.ckrt_thread.specs.State as threads
use Rattle.ckrt_thread.specs.declared.records.Reason.{Reason}
use Rattle.ckrt_thread.specs.declared.records.Reason.TheVariants as reason
use Rattle.ckrt_thread.specs.declared.records.Wait.{Wait}
use Rattle.ckrt_events.specs.declared.event.Event.{Event}
use Rattle.ckrt_events.specs.declared.event.Event.TheVariants.{Run, RunLong}
use Rattle.ckrt_machine.specs.Events as machine
use Rattle.ckrt_machine.specs.declared.event.RunEnd.{RunEnd}
use Rattle.ckrt_machine.specs.Runs.{stop_of, with_byte}
use Rattle.ckrt_machine.specs.Steps.{State, Stepped, hart_of, hart_step}
use Rattle.ckrt_look_recording.specs.Quiet.{is_quiet}
use Rattle.ckrt_look_profile.specs.declared.counts.Note.{Note}
use Rattle.ckrt_look_profile.specs.declared.counts.Note.TheVariants as note
use Rattle.ckrt_look_profile.specs.declared.counts.Step.{Step}
use Rattle.ckrt_look_profile.specs.declared.turn.Turn.{Turn}
use Rattle.ckrt_look_profile.specs.declared.turn.Turn.TheVariants as turn
use Rattle.ckrt_look_profile.specs.declared.waits.Awaited.{Awaited}
use Rattle.ckrt_look_profile.specs.declared.waits.Awaited.TheVariants as awaited
use Rattle.ckrt_look_profile.specs.Turns.{turn_of}

-- WAITS: who waits for a mutex behind a condition waits for the mutex

abbrev pub awaited_of : Reason → Awaited
awaited_of reason.Input = awaited.Input
awaited_of reason.Sleep = awaited.Sleep
awaited_of (reason.Join t) = awaited.Join t
awaited_of (reason.Lock m) = awaited.Mutex m
awaited_of (reason.Retake m r) = awaited.Mutex m
awaited_of (reason.Condition c m) = awaited.Condition c
awaited_of (reason.Barrier b) = awaited.Barrier b
awaited_of (reason.Read l) = awaited.Read l
awaited_of (reason.Write l) = awaited.Write l

-- a look at all who wait
abbrev pub looks : List Wait → List Note
looks [] = note.Looked ∷ []
looks (w ∷ ws) = note.Wait w.thread (awaited_of w.reason) ∷ looks ws

abbrev pub looks_at : State → List Note
looks_at s = looks s.tables.threads.waits

-- A STEP of a thread: from an instruction it goes on as its word says; from anything else, as a call of the runtime, as that lets it

abbrev pub word_turn : List ℕ → (pc : ℕ) → Turn
word_turn bytes pc =
    if is_valid bytes pc size.Word then turn_of (loaded bytes pc size.Word) else turn.Onward

abbrev pub turn_at : (is_quiet : Bool) → List ℕ → (pc : ℕ) → Turn
turn_at true bytes pc = word_turn bytes pc
turn_at false bytes pc = turn.Runtime ((pc + 4) % 2 ^ 32)

-- a hart without a thread
abbrev pub idle : Step
idle = record { thread = 0; pc = 0; turn = turn.Onward }

abbrev pub step_with : (t : ℕ) → Bool → List ℕ → Option Registers → Step
step_with t q bytes None = idle
step_with t q bytes (Some r) = record { thread = t; pc = r.pc; turn = turn_at q bytes r.pc }

abbrev pub step_by : Option ℕ → Bool → State → Step
step_by None q s = idle
step_by (Some t) q s =
    step_with t q s.bytes (threads.regs_of (threads.thread_of s.tables.threads t))

-- the next step of a hart
abbrev pub step_at : ℕ → State → Step
step_at h s = step_by (hart_of s.tables h) (is_quiet (hart_of s.tables h) s) s

-- waits change by no plain instruction
abbrev pub of_step : ℕ → State → List Note
of_step h s =
    note.Step (step_at h s) ∷ (if is_quiet (hart_of s.tables h) s then [] else looks_at s)

-- A RUN: what more is done, unless it has ended
abbrev pub unless_ended : Option RunEnd → List Note → List Note
unless_ended None more = more
unless_ended (Some how) more = []

-- what is behind a step
abbrev pub behind_step : (State → List ℕ → List Note) → ℕ → List ℕ → Stepped → List Note
behind_step more h out e =
    unless_ended (stop_of h e.state.tables (with_byte e.put out)) (more e.state (with_byte e.put out))

-- n steps at most of the thread on hart h, where the bytes out were put before
abbrev pub of_run : (n h : ℕ) → State → List ℕ → List Note
of_run zero h s out = []
of_run (suc n) h s out = of_step h s ++ behind_step (of_run n h) h out (hart_step h s)

-- behind a step, where the bytes out were put before: n steps more at most
abbrev pub of_rest : (n h : ℕ) → State → List ℕ → List Note
of_rest n h s out = unless_ended (stop_of h s.tables out) (of_run n h s out)

-- AN EVENT. Before one that is no run there is a look: it may end waits
abbrev pub of_event : Event → State → List Note
of_event (Run h n) s = of_run n h s []
of_event (RunLong h n) s = of_run n h s []
of_event e s = looks_at s

-- events, and the last look
abbrev pub of_events : List Event → State → List Note
of_events [] s = looks_at s
of_events (e ∷ es) s = of_event e s ++ of_events es (machine.step e s).state

-- THE THREADS that there are before, of numbers up to this

abbrev pub met_at : (t : ℕ) → Option Registers → List Note
met_at t None = []
met_at t (Some r) = note.Met t r.pc ∷ []

abbrev pub met : (t : ℕ) → State → List Note
met t s = met_at t (threads.regs_of (threads.thread_of s.tables.threads t))

abbrev pub met_up_to : ℕ → State → List Note
met_up_to zero s = []
met_up_to (suc t) s = met_up_to t s ++ met (t + 1) s

-- ALL that is noted of events
abbrev pub notes : List Event → State → List Note
notes es s = met_up_to 64 s ++ of_events es s
