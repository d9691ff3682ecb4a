-- Which calls are refused, by what they answer.
use Rattle.std.specs.Prelude.{◌≡◌, ℕ, ◌==◌, ◌||◌, Bool, true, false, Option, Some, None}
use Rattle.ckrt_registers.specs.Registers.{Registers, get}
use Rattle.ckrt_thread.specs.declared.records.CallResult.{CallResult}
use Rattle.ckrt_thread.specs.declared.records.CallResult.TheVariants.{Done, Blocked, Moved}
use Rattle.ckrt_thread.specs.Errors.{EPERM, ESRCH, EAGAIN, EBUSY, EINVAL, EDEADLK, ENOSYS, ETIMEDOUT}
use Rattle.ckrt_thread.specs.State.{thread_of, regs_of}
use Rattle.ckrt_calls.specs.declared.table.Tables.{Tables}
use Rattle.ckrt_calls.specs.declared.number.Call.{Call}
use Rattle.ckrt_calls.specs.declared.number.Call.TheVariants as call
use Rattle.ckrt_calls.specs.declared.number.ProcessCall.TheVariants as process_call
use Rattle.ckrt_calls.specs.declared.number.ThreadCall.TheVariants as thread_call
use Rattle.ckrt_calls.specs.declared.number.ConditionCall.TheVariants as condition_call
use Rattle.ckrt_calls.specs.Table.{call_of, called}

-- the error numbers, but for ETIMEDOUT
abbrev pub is_error : ℕ → Bool
is_error e =
    e == EPERM || e == ESRCH || e == EAGAIN || e == EBUSY || e == EINVAL || e == EDEADLK
    || e == ENOSYS

-- Whether a call that answers this number was refused. ETIMEDOUT refuses a timed lock; at a condition it is the result of a
-- wait for which the mutex was given up. What getc, clock and pthread_self answer is a byte, a word and an id.
abbrev pub is_refusal : Call → ℕ → Bool
is_refusal (call.Process process_call.Getc) e = false
is_refusal (call.Process process_call.Clock) e = false
is_refusal (call.Thread thread_call.SelfId) e = false
is_refusal (call.Condition condition_call.TimedWait) e = is_error e
is_refusal _ e = is_error e || e == ETIMEDOUT

-- whether a call was refused; a number that is in no row always is
abbrev pub is_refused : Option Call → CallResult → Bool
is_refused None result = true
is_refused (Some c) (Done e) = is_refusal c e
is_refused (Some c) Blocked = false
is_refused (Some c) Moved = false

-- the call in the registers of a thread that was refused leaves the tables as they were
abbrev pub RefusedChangesNothing : Type 0
RefusedChangesNothing =
    (t : ℕ) (r : Registers) (s : Tables) → regs_of (thread_of s.threads t) ≡ Some r
    → is_refused (call_of (get r 17)) (called t s).result ≡ true
    → (called t s).tables ≡ s
