-- Where the steps of a hart store (this project's choice).
use Rattle.std.specs.Prelude.{ℕ, zero, suc, List, [], ◌++◌, Option, Some, None, if◌then◌else◌}
use Rattle.ckrt_rv32i.specs.Stores.{stored_in_step}
use Rattle.ckrt_thread.specs.declared.records.Live.{Live}
use Rattle.ckrt_thread.specs.declared.records.Thread.{Thread}
use Rattle.ckrt_thread.specs.declared.records.Thread.TheVariants as thread
use Rattle.ckrt_thread.specs.State as threads
use Rattle.ckrt_thread.specs.Cancellation.{is_immediate}
use Rattle.ckrt_events.specs.declared.event.Event.{Event}
use Rattle.ckrt_events.specs.declared.event.Event.TheVariants.{Place, Run, Input, Eof, Tick, RunLong}
use Rattle.ckrt_machine.specs.declared.event.RunEnd.{RunEnd}
use Rattle.ckrt_machine.specs.Steps.{State, Stepped, hart_of, hart_step}
use Rattle.ckrt_machine.specs.Runs.{stop_of, with_byte}

-- the address that a step of the thread stores to, if it stores: no step that acts on a request does, and no instruction is at a gate
abbrev pub stored_by_live : Live → State → List ℕ
stored_by_live l s = if is_immediate l.cancellation then [] else stored_in_step l.regs s.bytes

abbrev pub stored_by_slot : Option Thread → State → List ℕ
stored_by_slot None s = []
stored_by_slot (Some (thread.Ended v)) s = []
stored_by_slot (Some (thread.Live l)) s = stored_by_live l s

abbrev pub stored_by_thread : Option ℕ → State → List ℕ
stored_by_thread None s = []
stored_by_thread (Some t) s = stored_by_slot (threads.thread_of s.tables.threads t) s

-- the address that a step of the thread on a hart stores to, if it stores
abbrev pub stored_in_hart_step : ℕ → State → List ℕ
stored_in_hart_step h s = stored_by_thread (hart_of s.tables h) s

-- what more is stored to, unless the run ends
abbrev pub unless_stopped : Option RunEnd → List ℕ → List ℕ
unless_stopped None more = more
unless_stopped (Some how) more = []

abbrev pub stored_behind : (State → List ℕ → List ℕ) → ℕ → List ℕ → Stepped → List ℕ
stored_behind more h out e =
    unless_stopped (stop_of h e.state.tables (with_byte e.put out))
    (more e.state (with_byte e.put out))

-- the addresses that n steps at most of the thread on hart h store to, in their order, where the bytes out were put before
abbrev pub stored_in_run : ℕ → ℕ → State → List ℕ → List ℕ
stored_in_run zero h s out = []
stored_in_run (suc n) h s out =
    stored_in_hart_step h s ++ stored_behind (stored_in_run n h) h out (hart_step h s)

-- the addresses that an event stores to
abbrev pub stored_in_event : Event → State → List ℕ
stored_in_event (Run h n) s = stored_in_run n h s []
stored_in_event (RunLong h n) s = stored_in_run n h s []
stored_in_event (Place h t) s = []
stored_in_event (Input bytes) s = []
stored_in_event Eof s = []
stored_in_event (Tick k) s = []
