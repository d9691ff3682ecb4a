-- The whole state of a machine, and one step of a hart.
use Rattle.std.specs.Prelude.{ℕ, ◌==◌, Bool, true, false, if◌then◌else◌, Option, Some, None, is_some, List, slice_get}
use Rattle.std.specs.Option.{option_flatten}
use Rattle.ckrt_registers.specs.Registers.{Registers}
use Rattle.ckrt_rv32i.specs.Effect.{instruction_step}
use Rattle.ckrt_registers.specs.Registers.{get}
use Rattle.ckrt_rv32i.specs.declared.execution.Outcome.{Outcome}
use Rattle.ckrt_rv32i.specs.declared.execution.Outcome.TheVariants.{Next, Call, Fault}
use Rattle.ckrt_rv32i.specs.declared.execution.Cause.{Cause}
use Rattle.ckrt_rv32i.specs.declared.execution.Cause.TheVariants as cause
use Rattle.ckrt_thread.specs.declared.records.CallResult.{CallResult}
use Rattle.ckrt_thread.specs.declared.records.CallResult.TheVariants as result
use Rattle.ckrt_thread.specs.declared.records.Live.{Live}
use Rattle.ckrt_thread.specs.declared.records.Thread.{Thread}
use Rattle.ckrt_thread.specs.declared.records.Thread.TheVariants as thread
use Rattle.ckrt_thread.specs.State as threads
use Rattle.ckrt_thread.specs.Abi.{A0, RETURN_GATE, UNWIND_GATE}
use Rattle.ckrt_thread.specs.Cancellation.{is_immediate}
use Rattle.ckrt_calls.specs.declared.table.Status.TheVariants.{Exited, Faulted}
use Rattle.ckrt_calls.specs.declared.table.Tables.{Tables}
use Rattle.ckrt_calls.specs.Table as calls

-- the memory's bytes, of which the first has the address 4,096, and the tables; a machine has nothing else
pub record State : Type 0 where
  pub bytes : List ℕ
  pub tables : Tables

-- what a step leaves, and the byte that it puts
pub record Stepped : Type 0 where
  pub state : State
  pub put : Option ℕ

-- a step that puts no byte
abbrev pub quiet : State → Stepped
quiet s = record { state = s; put = None }

-- the thread on the hart
abbrev pub hart_of : Tables → ℕ → Option ℕ
hart_of s h = option_flatten (slice_get s.threads.harts h)

-- the thread has these registers
abbrev pub with_regs : ℕ → Registers → Tables → Tables
with_regs t r s = record s { threads = threads.with_thread_regs t r s.threads }

-- a fault ends the program, with the thread, its pc and the cause
abbrev pub faulted : Cause → ℕ → ℕ → State → State
faulted c t pc s = record s { tables = record s.tables { status = Faulted t pc c } }

-- the result of a call goes to x10, if there is one
abbrev pub with_result : CallResult → ℕ → Tables → Tables
with_result (result.Done v) t s = record s { threads = threads.set_word t A0 v s.threads }
with_result result.Blocked t s = s
with_result result.Moved t s = s

-- a call that the thread made, with its result
abbrev pub called : ℕ → List ℕ → calls.After → Stepped
called t m a =
    record { state = record { bytes = m; tables = with_result a.result t a.tables }; put = a.put }

-- an instruction of the thread, whose effect this is; an ECALL makes its call once the pc has moved after it
abbrev pub performed : Outcome → ℕ → Registers → List ℕ → State → Stepped
performed Next t r m s = quiet (record { bytes = m; tables = with_regs t r s.tables })
performed Call t r m s = called t m (calls.called t (with_regs t r s.tables))
performed (Fault c) t r m s = quiet (faulted c t r.pc s)

-- a step that changes the tables alone
abbrev pub tables_become : Tables → State → Stepped
tables_become z s = quiet (record s { tables = z })

-- a request on which the thread acts before its next instruction (POSIX.1-2017, 2.9.5: asynchronous cancelability)
abbrev pub acted : ℕ → State → Stepped
acted t s = tables_become (calls.acted t s.tables) s

-- A return of the thread's first function with the value v. The initial thread ends the program with this status, also
-- while it unwinds. Any other unwinds, to end with the value (POSIX.1-2017, pthread_create: as by pthread_exit).
abbrev pub returned : Bool → ℕ → ℕ → State → Stepped
returned true v t s = tables_become (record s.tables { status = Exited v }) s
returned false v t s = tables_become (calls.begun_unwind t v s.tables) s

-- a return of a clean-up handler or a destructor: a thread that unwinds goes to its next handler, else to its next destructor, or
-- ends, and any other faults
abbrev pub handled : Bool → ℕ → ℕ → State → Stepped
handled true pc t s = tables_become (calls.unwound t s.tables) s
handled false pc t s = quiet (faulted cause.Gate t pc s)

-- a step of the thread whose record this is: the first of an immediate request, the return gate, the unwind gate, and the
-- instruction at the pc
abbrev pub thread_step : Live → ℕ → State → Stepped
thread_step l t s =
    if is_immediate l.cancellation then acted t s
    else if l.regs.pc == RETURN_GATE then returned l.initial (get l.regs A0) t s
    else if l.regs.pc == UNWIND_GATE then handled (is_some l.cancellation.unwinding) l.regs.pc t s
    else performed (instruction_step l.regs s.bytes).outcome t (instruction_step l.regs s.bytes).registers (instruction_step l.regs s.bytes).bytes s

-- a thread that has ended makes no step
abbrev pub slot_step : Option Thread → ℕ → State → Stepped
slot_step None t s = quiet s
slot_step (Some (thread.Ended v)) t s = quiet s
slot_step (Some (thread.Live l)) t s = thread_step l t s

-- an idle hart makes no step
abbrev pub step_of : Option ℕ → State → Stepped
step_of None s = quiet s
step_of (Some t) s = slot_step (threads.thread_of s.tables.threads t) t s

-- one step of the thread on a hart
abbrev pub hart_step : ℕ → State → Stepped
hart_step h s = step_of (hart_of s.tables h) s
