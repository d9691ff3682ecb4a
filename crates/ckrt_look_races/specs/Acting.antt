-- Who acts on a request for cancellation by a step of a hart that it is on (POSIX.1-2017, 2.9.5 Thread Cancellation): at once, or at a
-- call that is a cancellation point.
use Rattle.std.specs.Prelude.{ℕ, ◌&&◌, ◌||◌, Bool, false, if◌then◌else◌, Option, Some, None}
use Rattle.ckrt_registers.specs.Registers.{get}
use Rattle.ckrt_thread.specs.Cancellation.{is_immediate, is_pending}
use Rattle.ckrt_thread.specs.State as threads
use Rattle.ckrt_thread.specs.declared.records.Thread.{Thread}
use Rattle.ckrt_thread.specs.declared.records.Thread.TheVariants as thread
use Rattle.ckrt_calls.specs.declared.number.Call.{Call}
use Rattle.ckrt_calls.specs.Table.{call_of, is_point}
use Rattle.ckrt_machine.specs.Steps.{State}
use Rattle.ckrt_look_calls.specs.declared.lines.Caller.{Caller}
use Rattle.ckrt_look_calls.specs.Lines.{caller_of}

abbrev pub is_point_call : Option Call → Bool
is_point_call None = false
is_point_call (Some c) = is_point c

-- who is at a call is at a cancellation point
abbrev pub is_at_point : Option Caller → Bool
is_at_point None = false
is_at_point (Some c) = is_point_call (call_of (get c.regs 17))

abbrev pub acts : (at_point : Bool) → Option Thread → Bool
acts p None = false
acts p (Some (thread.Ended v)) = false
acts p (Some (thread.Live l)) = is_immediate l.cancellation || (p && is_pending l.cancellation)

abbrev pub acting : Option ℕ → State → Option ℕ
acting None s = None
acting (Some t) s =
    if acts (is_at_point (caller_of (Some t) s)) (threads.thread_of s.tables.threads t) then Some t
    else None
