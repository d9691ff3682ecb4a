-- What follows the last instruction of a burst (this project's choice).
use Rattle.std.specs.Prelude.{ℕ, ◌==◌, if◌then◌else◌, Option, Some, None, is_some}
use Rattle.ckrt_registers.specs.Registers.{get}
use Rattle.ckrt_rv32i.specs.declared.execution.Outcome.{Outcome}
use Rattle.ckrt_rv32i.specs.declared.execution.Outcome.TheVariants.{Next, Call, Fault}
use Rattle.ckrt_rv32i.specs.declared.execution.Cause.{Cause}
use Rattle.ckrt_thread.specs.declared.records.Thread.{Thread}
use Rattle.ckrt_thread.specs.declared.records.Thread.TheVariants as thread
use Rattle.ckrt_thread.specs.State as threads
use Rattle.ckrt_calls.specs.Table as calls
use Rattle.ckrt_thread.specs.Abi.{A0, RETURN_GATE, UNWIND_GATE}
use Rattle.ckrt_machine.specs.Steps.{State, Stepped, quiet, called, returned, handled, faulted}

-- A fault of the thread whose record this is. No instruction is at a gate, so a thread that is at one faults: it returned.
abbrev pub fault_ending : Cause → Option Thread → ℕ → State → Stepped
fault_ending c None t s = quiet s
fault_ending c (Some (thread.Ended v)) t s = quiet s
fault_ending c (Some (thread.Live l)) t s =
    if l.regs.pc == RETURN_GATE then returned l.initial (get l.regs A0) t s
    else if l.regs.pc == UNWIND_GATE then handled (is_some l.cancellation.unwinding) l.regs.pc t s
    else quiet (faulted c t l.regs.pc s)

-- the last step of a burst of the thread, which has the registers that the instruction left
abbrev pub ending : Outcome → ℕ → State → Stepped
ending Next t s = quiet s
ending Call t s = called t s.bytes (calls.called t s.tables)
ending (Fault c) t s = fault_ending c (threads.thread_of s.tables.threads t) t s
