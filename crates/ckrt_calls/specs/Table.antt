-- The table of calls, and what input and time do to the tables.
use Rattle.std.specs.Prelude.{ℕ, ◌+◌, ◌*◌, ◌/◌, ◌%◌, ◌^◌, ◌==◌, nat_le, not, ◌&&◌, Bool, true, false, if◌then◌else◌, Option, Some, None, List, [], ◌∷◌, ◌++◌, length}
use Rattle.ckrt_registers.specs.Registers.{Registers}
use Rattle.ckrt_registers.specs.Registers.{get}
use Rattle.ckrt_thread.specs.declared.records.CallResult.{CallResult}
use Rattle.ckrt_thread.specs.declared.records.CallResult.TheVariants.{Done, Blocked, Moved}
use Rattle.ckrt_thread.specs.declared.records.Wait.{Wait}
use Rattle.ckrt_thread.specs.declared.records.Reason.{Reason}
use Rattle.ckrt_thread.specs.declared.records.Reason.TheVariants as reason
use Rattle.ckrt_thread.specs.declared.records.RetakeResult.TheVariants as retake
use Rattle.ckrt_thread.specs.declared.records.Object.TheVariants as object
use Rattle.ckrt_thread.specs.Abi.{A1}
use Rattle.ckrt_thread.specs.Errors.{EINVAL, ENOSYS, ETIMEDOUT}
use Rattle.ckrt_thread.specs.Waits.{is_moment}
use Rattle.ckrt_thread.specs.Deadlines.{due_waits}
use Rattle.ckrt_thread.specs.Granting.{queue_of}
use Rattle.ckrt_thread.specs.State as thread
use Rattle.ckrt_thread.specs.Rows as rows
use Rattle.ckrt_thread.specs.Unwinding as unwinding
use Rattle.ckrt_mutex.specs.Rows as mutex
use Rattle.ckrt_cond.specs.Rows as condition
use Rattle.ckrt_barrier.specs.Rows as barrier
use Rattle.ckrt_rwlock.specs.Rows as rwlock
use Rattle.ckrt_cancel.specs.Rows as cancel
use Rattle.ckrt_cancel.specs.KeyRows as keys
use Rattle.ckrt_calls.specs.declared.table.Status.{Status}
use Rattle.ckrt_calls.specs.declared.table.Status.TheVariants.{Exited}
use Rattle.ckrt_calls.specs.declared.table.Tables.{Tables}
use Rattle.ckrt_calls.specs.declared.number.Call.{Call}
use Rattle.ckrt_calls.specs.declared.number.Call.TheVariants as call
use Rattle.ckrt_calls.specs.declared.number.ProcessCall.{ProcessCall}
use Rattle.ckrt_calls.specs.declared.number.ProcessCall.TheVariants as process_call
use Rattle.ckrt_calls.specs.declared.number.ThreadCall.{ThreadCall}
use Rattle.ckrt_calls.specs.declared.number.ThreadCall.TheVariants as thread_call
use Rattle.ckrt_calls.specs.declared.number.MutexCall.{MutexCall}
use Rattle.ckrt_calls.specs.declared.number.MutexCall.TheVariants as mutex_call
use Rattle.ckrt_calls.specs.declared.number.ConditionCall.{ConditionCall}
use Rattle.ckrt_calls.specs.declared.number.ConditionCall.TheVariants as condition_call
use Rattle.ckrt_calls.specs.declared.number.BarrierCall.{BarrierCall}
use Rattle.ckrt_calls.specs.declared.number.BarrierCall.TheVariants as barrier_call
use Rattle.ckrt_calls.specs.declared.number.RwLockCall.{RwLockCall}
use Rattle.ckrt_calls.specs.declared.number.RwLockCall.TheVariants as rwlock_call
use Rattle.ckrt_calls.specs.declared.number.CancellationCall.{CancellationCall}
use Rattle.ckrt_calls.specs.declared.number.CancellationCall.TheVariants as cancellation_call
use Rattle.ckrt_calls.specs.declared.number.KeyCall.{KeyCall}
use Rattle.ckrt_calls.specs.declared.number.KeyCall.TheVariants as key_call

-- INPUT (this project's choice)

-- what getc answers where no byte is left and no more comes (after POSIX.1-2017, getchar: EOF)
abbrev pub END_OF_INPUT : ℕ
END_OF_INPUT = 0xFFFF_FFFF

-- the bytes that no thread has read, and the threads
pub record Fed : Type 0 where
  pub input : List ℕ
  pub threads : thread.State

-- who waits longest for input gets the first byte b
abbrev pub feed_first : (thread.State → Fed) → Option Wait → List ℕ → ℕ → thread.State → Fed
feed_first more None bytes b z = record { input = bytes; threads = z }
feed_first more (Some w) bytes b z = more (thread.woken w.thread b z)

-- while a byte is left and a thread waits for input, it gets the byte
abbrev pub feed : List ℕ → thread.State → Fed
feed [] z = record { input = []; threads = z }
feed (b ∷ bs) z = feed_first (feed bs) (thread.first_waiter object.Input z) (b ∷ bs) b z

abbrev pub with_fed : Tables → Fed → Tables
with_fed s f = record s { input = f.input; threads = f.threads }

-- bytes of input come: they are read after those that no thread has read
abbrev pub input_taken : List ℕ → Tables → Tables
input_taken bytes s = with_fed s (feed (s.input ++ bytes) s.threads)

-- no more input comes, and each thread that waits for it learns so
abbrev pub input_closed : Tables → Tables
input_closed s =
    record s {
      closed = true;
      threads = thread.all_woken END_OF_INPUT (queue_of object.Input s.threads) s.threads;
    }

-- TIME

-- the tables after a wait has ended with this result
abbrev pub woken : ℕ → ℕ → Tables → Tables
woken t v s = record s { threads = thread.woken t v s.threads }

-- a thread that waited at a condition has its mutex again, or waits for it (POSIX.1-2017, pthread_cond_timedwait)
abbrev pub retaken : mutex.After → Tables → Tables
retaken r s = record s { threads = r.threads; mutexes = r.mutexes }

-- A due wait ends: a sleep with 0 (POSIX.1-2017, clock_nanosleep), a condition wait with its mutex and ETIMEDOUT, and a
-- wait for a mutex with ETIMEDOUT (pthread_mutex_timedlock). No other wait has a deadline.
abbrev pub timed_out : Reason → ℕ → Tables → Tables
timed_out reason.Sleep t s = woken t 0 s
timed_out (reason.Condition c m) t s =
    retaken (condition.resume_row t m retake.TimedOut s.threads s.mutexes) s
timed_out _ t s = woken t ETIMEDOUT s

-- these waits end one after another
abbrev pub all_timed_out : List Wait → Tables → Tables
all_timed_out [] s = s
all_timed_out (w ∷ ws) s = all_timed_out ws (timed_out w.reason w.thread s)

-- what the passing of time leaves, and how many waits it ended
pub record Ticked : Type 0 where
  pub tables : Tables
  pub ended : ℕ

-- the clock stands at this moment, and each wait that is due then ends, in order of deadline and then of thread
abbrev pub at_moment : ℕ → Tables → Ticked
at_moment now s = record {
  tables = record (all_timed_out (due_waits now s.threads.waits) s) { clock = now };
  ended = length (due_waits now s.threads.waits);
}

-- k ticks pass
abbrev pub ticked : ℕ → Tables → Ticked
ticked k s = at_moment (s.clock + k) s

-- UNWINDING

-- with the last thread the program exits with 0 (POSIX.1-2017, pthread_exit)
abbrev pub status_with : Bool → Status → Status
status_with is_any_live st = if is_any_live then st else Exited 0

-- a thread unwinds, which leaves these threads: it may have ended
abbrev pub by_unwinding : Tables → thread.State → Tables
by_unwinding s z = record s { threads = z; status = status_with (thread.is_any_live z) s.status }

-- the thread t, which unwinds, goes to its next handler, else to its next destructor, or ends
abbrev pub unwound : ℕ → Tables → Tables
unwound t s = by_unwinding s (unwinding.next_handler t s.threads)

-- the thread t begins to unwind, to end with the value v
abbrev pub begun_unwind : ℕ → ℕ → Tables → Tables
begun_unwind t v s = by_unwinding s (cancel.begin_unwind t v s.threads)

-- the thread t acts on the request to cancel it
abbrev pub acted : ℕ → Tables → Tables
acted t s = by_unwinding s (cancel.act_on_request t s.threads)

-- CALLS

-- what a call answers, the byte that it puts, and what it leaves
pub record After : Type 0 where
  pub result : CallResult
  pub put : Option ℕ
  pub tables : Tables

-- The numbers are this project's choice.
abbrev pub call_of : ℕ → Option Call
call_of n =
    if n == 1 then Some (call.Process process_call.Exit)
    else if n == 2 then Some (call.Process process_call.Putc)
    else if n == 3 then Some (call.Process process_call.Getc)
    else if n == 4 then Some (call.Process process_call.Clock)
    else if n == 5 then Some (call.Process process_call.SleepUntil)
    else if n == 10 then Some (call.Thread thread_call.Create)
    else if n == 11 then Some (call.Thread thread_call.Join)
    else if n == 12 then Some (call.Thread thread_call.Detach)
    else if n == 13 then Some (call.Thread thread_call.Exit)
    else if n == 14 then Some (call.Thread thread_call.SelfId)
    else if n == 20 then Some (call.Mutex mutex_call.Init)
    else if n == 21 then Some (call.Mutex mutex_call.Destroy)
    else if n == 22 then Some (call.Mutex mutex_call.Lock)
    else if n == 23 then Some (call.Mutex mutex_call.TryLock)
    else if n == 24 then Some (call.Mutex mutex_call.TimedLock)
    else if n == 25 then Some (call.Mutex mutex_call.Unlock)
    else if n == 30 then Some (call.Condition condition_call.Init)
    else if n == 31 then Some (call.Condition condition_call.Destroy)
    else if n == 32 then Some (call.Condition condition_call.Wait)
    else if n == 33 then Some (call.Condition condition_call.TimedWait)
    else if n == 34 then Some (call.Condition condition_call.Signal)
    else if n == 35 then Some (call.Condition condition_call.Broadcast)
    else if n == 40 then Some (call.Barrier barrier_call.Init)
    else if n == 41 then Some (call.Barrier barrier_call.Destroy)
    else if n == 42 then Some (call.Barrier barrier_call.Wait)
    else if n == 50 then Some (call.RwLock rwlock_call.Init)
    else if n == 51 then Some (call.RwLock rwlock_call.Destroy)
    else if n == 52 then Some (call.RwLock rwlock_call.RdLock)
    else if n == 53 then Some (call.RwLock rwlock_call.TryRdLock)
    else if n == 54 then Some (call.RwLock rwlock_call.WrLock)
    else if n == 55 then Some (call.RwLock rwlock_call.TryWrLock)
    else if n == 56 then Some (call.RwLock rwlock_call.Unlock)
    else if n == 60 then Some (call.Cancellation cancellation_call.Cancel)
    else if n == 61 then Some (call.Cancellation cancellation_call.TestCancel)
    else if n == 62 then Some (call.Cancellation cancellation_call.SetCancelState)
    else if n == 63 then Some (call.Cancellation cancellation_call.SetCancelType)
    else if n == 64 then Some (call.Cancellation cancellation_call.CleanupPush)
    else if n == 65 then Some (call.Cancellation cancellation_call.CleanupPop)
    else if n == 70 then Some (call.Key key_call.Create)
    else if n == 71 then Some (call.Key key_call.Delete)
    else if n == 72 then Some (call.Key key_call.SetSpecific)
    else if n == 73 then Some (call.Key key_call.GetSpecific)
    else None

-- a result alone
abbrev pub done : ℕ → Tables → After
done v s = record { result = Done v; put = None; tables = s }

-- what a row of the threads does to the tables
abbrev pub by_threads : Tables → rows.After → After
by_threads s r = record { result = r.result; put = None; tables = record s { threads = r.threads } }

-- what a row of the mutexes or the conditions does to the tables
abbrev pub by_mutexes : Tables → mutex.After → After
by_mutexes s r =
    record {
      result = r.result;
      put = None;
      tables = record s { threads = r.threads; mutexes = r.mutexes };
    }

-- what a row of the barriers does to the tables
abbrev pub by_barriers : Tables → barrier.After → After
by_barriers s r =
    record {
      result = r.result;
      put = None;
      tables = record s { threads = r.threads; barriers = r.barriers };
    }

-- what a row of the read-write locks does to the tables
abbrev pub by_rwlocks : Tables → rwlock.After → After
by_rwlocks s r =
    record {
      result = r.result;
      put = None;
      tables = record s { threads = r.threads; rwlocks = r.locks };
    }

-- the thread that calls waits
abbrev pub waits : ℕ → Reason → Option ℕ → Tables → After
waits t r d s =
    record {
      result = Blocked;
      put = None;
      tables = record s { threads = thread.blocked t r d s.threads };
    }

-- the first byte of the input, END_OF_INPUT where it has ended, else the thread waits for a byte
abbrev pub getc_of : List ℕ → ℕ → Tables → After
getc_of [] t s = if s.closed then done END_OF_INPUT s else waits t reason.Input None s
getc_of (b ∷ bs) t s = done b (record s { input = bs })

-- the clock in two words: the low one, and the high one in x11
abbrev pub clock_row : ℕ → Tables → After
clock_row t s =
    done (s.clock % 2 ^ 32)
    (record s { threads = thread.set_word t A1 (s.clock / 2 ^ 32) s.threads })

-- a moment in two words
abbrev pub moment_of : ℕ → ℕ → ℕ
moment_of low high = low + 2 ^ 32 * high

-- a moment out of range is EINVAL; one that the clock has reached needs no wait
abbrev pub sleep_row : ℕ → ℕ → Tables → After
sleep_row t moment s =
    if not (is_moment moment) then done EINVAL s
    else (if nat_le moment s.clock then done 0 s
    else waits t reason.Sleep (Some moment) s)

-- THE ROWS of calls, which the thread t makes with the registers r.

-- the rows of the process, its console and its time
abbrev pub process_row : ProcessCall → ℕ → Registers → Tables → After
-- POSIX.1-2017, _exit; that the status is a whole word is this project's choice
process_row process_call.Exit t r s =
    record { result = Moved; put = None; tables = record s { status = Exited (get r 10) } }
-- this project's choice: the low byte goes to the console
process_row process_call.Putc t r s =
    record { result = Done 0; put = Some (get r 10 % 256); tables = s }
-- POSIX.1-2017, getchar, on the console's input; that a thread waits for a byte is this project's choice
process_row process_call.Getc t r s = getc_of s.input t s
-- POSIX.1-2017, clock_gettime, in ticks
process_row process_call.Clock t r s = clock_row t s
-- POSIX.1-2017, clock_nanosleep with TIMER_ABSTIME, in ticks; without signals
process_row process_call.SleepUntil t r s = sleep_row t (moment_of (get r 10) (get r 11)) s

-- the rows of threads
abbrev pub thread_row : ThreadCall → ℕ → Registers → Tables → After
-- POSIX.1-2017, pthread_create
thread_row thread_call.Create t r s =
    by_threads s (rows.create_row t (get r 10) (get r 11) (get r 12) (get r 13) s.threads)
-- POSIX.1-2017, pthread_join
thread_row thread_call.Join t r s = by_threads s (rows.join_row t (get r 10) s.threads)
-- POSIX.1-2017, pthread_detach
thread_row thread_call.Detach t r s = by_threads s (rows.detach_row (get r 10) s.threads)
-- POSIX.1-2017, pthread_exit: its handlers and the destructors of its values run first
thread_row thread_call.Exit t r s =
    record { result = Moved; put = None; tables = begun_unwind t (get r 10) s }
-- POSIX.1-2017, pthread_self
thread_row thread_call.SelfId t r s = done t s

-- the rows of mutexes
abbrev pub mutex_row : MutexCall → ℕ → Registers → Tables → After
-- POSIX.1-2017, pthread_mutex_init
mutex_row mutex_call.Init t r s =
    by_mutexes s (mutex.init_row (get r 10) (get r 11) s.threads s.mutexes)
-- POSIX.1-2017, pthread_mutex_destroy
mutex_row mutex_call.Destroy t r s = by_mutexes s (mutex.destroy_row (get r 10) s.threads s.mutexes)
-- POSIX.1-2017, pthread_mutex_lock
mutex_row mutex_call.Lock t r s = by_mutexes s (mutex.lock_row t (get r 10) s.threads s.mutexes)
-- POSIX.1-2017, pthread_mutex_trylock
mutex_row mutex_call.TryLock t r s =
    by_mutexes s (mutex.trylock_row t (get r 10) s.threads s.mutexes)
-- POSIX.1-2017, pthread_mutex_timedlock
mutex_row mutex_call.TimedLock t r s =
    by_mutexes s (mutex.timedlock_row t (get r 10) (moment_of (get r 11) (get r 12)) s.clock
    s.threads s.mutexes)
-- POSIX.1-2017, pthread_mutex_unlock
mutex_row mutex_call.Unlock t r s = by_mutexes s (mutex.unlock_row t (get r 10) s.threads s.mutexes)

-- the rows of conditions
abbrev pub condition_row : ConditionCall → ℕ → Registers → Tables → After
-- POSIX.1-2017, pthread_cond_init
condition_row condition_call.Init t r s =
    by_mutexes s (condition.init_row (get r 10) s.threads s.mutexes)
-- POSIX.1-2017, pthread_cond_destroy
condition_row condition_call.Destroy t r s =
    by_mutexes s (condition.destroy_row (get r 10) s.threads s.mutexes)
-- POSIX.1-2017, pthread_cond_wait
condition_row condition_call.Wait t r s =
    by_mutexes s (condition.wait_row t (get r 10) (get r 11) s.threads s.mutexes)
-- POSIX.1-2017, pthread_cond_timedwait
condition_row condition_call.TimedWait t r s =
    by_mutexes s (condition.timedwait_row t (get r 10) (get r 11) (moment_of (get r 12) (get r 13))
    s.clock s.threads s.mutexes)
-- POSIX.1-2017, pthread_cond_signal
condition_row condition_call.Signal t r s =
    by_mutexes s (condition.signal_row (get r 10) s.threads s.mutexes)
-- POSIX.1-2017, pthread_cond_broadcast
condition_row condition_call.Broadcast t r s =
    by_mutexes s (condition.broadcast_row (get r 10) s.threads s.mutexes)

-- the rows of barriers
abbrev pub barrier_row : BarrierCall → ℕ → Registers → Tables → After
-- POSIX.1-2017, pthread_barrier_init
barrier_row barrier_call.Init t r s =
    by_barriers s (barrier.init_row (get r 10) (get r 11) s.threads s.barriers)
-- POSIX.1-2017, pthread_barrier_destroy
barrier_row barrier_call.Destroy t r s =
    by_barriers s (barrier.destroy_row (get r 10) s.threads s.barriers)
-- POSIX.1-2017, pthread_barrier_wait
barrier_row barrier_call.Wait t r s =
    by_barriers s (barrier.wait_row t (get r 10) s.threads s.barriers)

-- the rows of read-write locks
abbrev pub rwlock_row : RwLockCall → ℕ → Registers → Tables → After
-- POSIX.1-2017, pthread_rwlock_init
rwlock_row rwlock_call.Init t r s = by_rwlocks s (rwlock.init_row (get r 10) s.threads s.rwlocks)
-- POSIX.1-2017, pthread_rwlock_destroy
rwlock_row rwlock_call.Destroy t r s =
    by_rwlocks s (rwlock.destroy_row (get r 10) s.threads s.rwlocks)
-- POSIX.1-2017, pthread_rwlock_rdlock
rwlock_row rwlock_call.RdLock t r s =
    by_rwlocks s (rwlock.rdlock_row t (get r 10) s.threads s.rwlocks)
-- POSIX.1-2017, pthread_rwlock_tryrdlock
rwlock_row rwlock_call.TryRdLock t r s =
    by_rwlocks s (rwlock.tryrdlock_row t (get r 10) s.threads s.rwlocks)
-- POSIX.1-2017, pthread_rwlock_wrlock
rwlock_row rwlock_call.WrLock t r s =
    by_rwlocks s (rwlock.wrlock_row t (get r 10) s.threads s.rwlocks)
-- POSIX.1-2017, pthread_rwlock_trywrlock
rwlock_row rwlock_call.TryWrLock t r s =
    by_rwlocks s (rwlock.trywrlock_row t (get r 10) s.threads s.rwlocks)
-- POSIX.1-2017, pthread_rwlock_unlock
rwlock_row rwlock_call.Unlock t r s =
    by_rwlocks s (rwlock.unlock_row t (get r 10) s.threads s.rwlocks)

-- the rows of cancellation and clean-up handlers
abbrev pub cancellation_row : CancellationCall → ℕ → Registers → Tables → After
-- POSIX.1-2017, pthread_cancel
cancellation_row cancellation_call.Cancel t r s =
    by_mutexes s (cancel.request_row (get r 10) s.threads s.mutexes)
-- POSIX.1-2017, pthread_testcancel, where there is no request to act on
cancellation_row cancellation_call.TestCancel t r s = done 0 s
-- POSIX.1-2017, pthread_setcancelstate
cancellation_row cancellation_call.SetCancelState t r s =
    by_threads s (cancel.set_state_row t (get r 10) s.threads)
-- POSIX.1-2017, pthread_setcanceltype
cancellation_row cancellation_call.SetCancelType t r s =
    by_threads s (cancel.set_type_row t (get r 10) s.threads)
-- POSIX.1-2017, pthread_cleanup_push
cancellation_row cancellation_call.CleanupPush t r s =
    by_threads s (cancel.push_row t (get r 10) (get r 11) s.threads)
-- POSIX.1-2017, pthread_cleanup_pop; the handler returns to the address after the call
cancellation_row cancellation_call.CleanupPop t r s =
    by_threads s (cancel.pop_row t (get r 10) r.pc s.threads)

-- the rows of thread-specific data
abbrev pub key_row : KeyCall → ℕ → Registers → Tables → After
-- POSIX.1-2017, pthread_key_create
key_row key_call.Create t r s = by_threads s (keys.key_create_row t (get r 10) s.threads)
-- POSIX.1-2017, pthread_key_delete
key_row key_call.Delete t r s = by_threads s (keys.key_delete_row (get r 10) s.threads)
-- POSIX.1-2017, pthread_setspecific
key_row key_call.SetSpecific t r s =
    by_threads s (keys.setspecific_row t (get r 10) (get r 11) s.threads)
-- POSIX.1-2017, pthread_getspecific
key_row key_call.GetSpecific t r s = by_threads s (keys.getspecific_row t (get r 10) s.threads)

-- the row of a call that is made
abbrev pub row : Call → ℕ → Registers → Tables → After
row (call.Process c) t r s = process_row c t r s
row (call.Thread c) t r s = thread_row c t r s
row (call.Mutex c) t r s = mutex_row c t r s
row (call.Condition c) t r s = condition_row c t r s
row (call.Barrier c) t r s = barrier_row c t r s
row (call.RwLock c) t r s = rwlock_row c t r s
row (call.Cancellation c) t r s = cancellation_row c t r s
row (call.Key c) t r s = key_row c t r s

-- CANCELLATION POINTS (POSIX.1-2017, 2.9.5.2). That getc and putc are ones is this project's choice, which POSIX permits.

abbrev pub is_point : Call → Bool
is_point (call.Process process_call.Putc) = true
is_point (call.Process process_call.Getc) = true
is_point (call.Process process_call.SleepUntil) = true
is_point (call.Thread thread_call.Join) = true
is_point (call.Condition condition_call.Wait) = true
is_point (call.Condition condition_call.TimedWait) = true
is_point (call.Cancellation cancellation_call.TestCancel) = true
is_point _ = false

-- at a cancellation point the thread t has a request to act on
abbrev pub acts_at : Call → ℕ → Tables → Bool
acts_at c t s = is_point c && cancel.acts_at_point t s.threads

-- the thread t acts on the request, and does not make the call
abbrev pub acted_at : ℕ → Tables → After
acted_at t s = record { result = Moved; put = None; tables = acted t s }

abbrev pub row_or_point : Call → ℕ → Registers → Tables → After
row_or_point c t r s = if acts_at c t s then acted_at t s else row c t r s

-- a number that is in no row answers ENOSYS
abbrev pub row_or_unknown : Option Call → ℕ → Registers → Tables → After
row_or_unknown None t r s = done ENOSYS s
row_or_unknown (Some c) t r s = row_or_point c t r s

-- the call that stands in registers; a thread that has ended has none
abbrev pub called_with : Option Registers → ℕ → Tables → After
called_with None t s = done ENOSYS s
called_with (Some r) t s = row_or_unknown (call_of (get r 17)) t r s

-- the call that stands in the registers of the thread t
abbrev pub called : ℕ → Tables → After
called t s = called_with (thread.regs_of (thread.thread_of s.threads t)) t s
