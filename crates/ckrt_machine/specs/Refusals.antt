-- Why an event is refused. The reasons are tested in the order in which `Refusal` has them, and the first that applies is given.
use Rattle.std.specs.Prelude.{ℕ, ◌+◌, nat_le, nat_lt, if◌then◌else◌, Option, Some, None, is_none, not, length}
use Rattle.ckrt_thread.specs.State as threads
use Rattle.ckrt_thread.specs.Waits.{MOMENT_END}
use Rattle.ckrt_calls.specs.declared.table.Tables.{Tables}
use Rattle.ckrt_calls.specs.Output.{HELD_LIMIT}
use Rattle.ckrt_calls.specs.WellFormed.{INPUT_LIMIT}
use Rattle.ckrt_events.specs.declared.event.Event.{Event}
use Rattle.ckrt_events.specs.declared.event.Event.TheVariants.{Place, Run, Input, Eof, Tick, RunLong}
use Rattle.ckrt_machine.specs.declared.event.Refusal.{Refusal}
use Rattle.ckrt_machine.specs.declared.event.Refusal.TheVariants.{Ended, NoSuchHart, NoSuchThread, NotReady, HartIdle, InputClosed, InputFull, ClockEnd, OutputFull}
use Rattle.ckrt_machine.specs.Steps.{State, hart_of}
use Rattle.ckrt_machine.specs.Runs.{RUN_OUTPUT, is_running}

-- a run, of whatever number of steps
abbrev pub run_refusal : ℕ → ℕ → Tables → Option Refusal
run_refusal held h s =
    if nat_le s.threads.hart_count h then Some NoSuchHart
    else if is_none (hart_of s h) then Some HartIdle
    else if nat_lt HELD_LIMIT (held + RUN_OUTPUT) then Some OutputFull
    else None

-- while the program runs and that many bytes of output are held
abbrev pub running_refusal : ℕ → Event → Tables → Option Refusal
running_refusal held (Place h t) s =
    if nat_le s.threads.hart_count h then Some NoSuchHart
    else if is_none (threads.thread_of s.threads t) then Some NoSuchThread
    else if not (threads.is_ready s.threads t) then Some NotReady
    else None
running_refusal held (Run h n) s = run_refusal held h s
running_refusal held (RunLong h n) s = run_refusal held h s
running_refusal held (Input bytes) s =
    if s.closed then Some InputClosed
    else if nat_lt INPUT_LIMIT (length s.input + length bytes.items) then Some InputFull
    else None
running_refusal held Eof s = if s.closed then Some InputClosed else None
running_refusal held (Tick k) s = if nat_le MOMENT_END (s.clock + k) then Some ClockEnd else None

abbrev pub refusal_in : ℕ → Event → Tables → Option Refusal
refusal_in held e s = if is_running s.status then running_refusal held e s else Some Ended

-- why the event is refused where that many bytes of output are held, if it is
abbrev pub refusal_of : ℕ → Event → State → Option Refusal
refusal_of held e s = refusal_in held e s.tables
