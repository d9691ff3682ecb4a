-- What the calls on barriers do. The thread t makes the call, b is the barrier's address.
use Rattle.std.specs.Prelude.{ℕ, ◌+◌, ◌==◌, nat_le, Bool, not, ◌&&◌, if◌then◌else◌, List, length, Option, Some, None, is_some}
use Rattle.ckrt_thread.specs.declared.records.Wait.{Wait}
use Rattle.ckrt_thread.specs.declared.records.Reason.TheVariants as reason
use Rattle.ckrt_thread.specs.declared.records.Object.TheVariants as object
use Rattle.ckrt_thread.specs.declared.records.CallResult.{CallResult}
use Rattle.ckrt_thread.specs.declared.records.CallResult.TheVariants.{Done, Blocked}
use Rattle.ckrt_thread.specs.Errors.{EAGAIN, EBUSY, EINVAL}
use Rattle.ckrt_thread.specs.State.{State, first_waiter, blocked, all_woken}
use Rattle.ckrt_thread.specs.Granting.{queue_of}
use Rattle.ckrt_objects.specs.declared.address_map.Entry.{Entry}
use Rattle.ckrt_objects.specs.AddressMap.{has_entry, lookup, stored, removed}
use Rattle.ckrt_barrier.specs.declared.barrier.Barrier.{Barrier}

-- what a call answers and leaves
pub record After : Type 0 where
  pub result : CallResult
  pub threads : State
  pub barriers : List (Entry Barrier)

abbrev pub unchanged : CallResult → State → List (Entry Barrier) → After
unchanged r s bs = record { result = r; threads = s; barriers = bs }

-- the threads that wait at a barrier, in order of the start of waiting
abbrev pub waiters : ℕ → State → List Wait
waiters b s = queue_of (object.Barrier b) s

abbrev pub has_waiters : ℕ → State → Bool
has_waiters b s = is_some (first_waiter (object.Barrier b) s)

-- There is no such barrier, and there are 64 others: more there may not be (this project's choice).
abbrev pub is_full : ℕ → List (Entry Barrier) → Bool
is_full b bs = not (has_entry b bs) && nat_le 64 (length bs)

-- INIT AND DESTROY. POSIX.1-2017, pthread_barrier_init and pthread_barrier_destroy. POSIX leaves undefined what becomes
-- of a barrier that is initialised again, of one that is initialised or destroyed while threads wait at it, and of the
-- destruction of none. That a barrier at which nobody waits is set anew is this project's choice; for the others it takes
-- the errors that the rationale recommends.

abbrev pub init_row : ℕ → ℕ → State → List (Entry Barrier) → After
init_row b count s bs =
    if has_waiters b s then unchanged (Done EBUSY) s bs
    else (if count == 0 then unchanged (Done EINVAL) s bs
    else (if is_full b bs then unchanged (Done EAGAIN) s bs
    else (record { result = Done 0; threads = s; barriers = stored b (record { count = count }) bs })))

abbrev pub destroy_row : ℕ → State → List (Entry Barrier) → After
destroy_row b s bs =
    if has_waiters b s then unchanged (Done EBUSY) s bs
    else (if not (has_entry b bs) then unchanged (Done EINVAL) s bs
    else (record { result = Done 0; threads = s; barriers = removed b bs }))

-- WAIT. POSIX.1-2017, pthread_barrier_wait. EINVAL where there is no such barrier is what the rationale recommends. That
-- the last to come gets SERIAL_THREAD (POSIX: one thread, arbitrarily), and that the others end their waits in order, is
-- this project's choice.

-- PTHREAD_BARRIER_SERIAL_THREAD, with Linux's value, -1
abbrev pub SERIAL_THREAD : ℕ
SERIAL_THREAD = 0xFFFF_FFFF

-- The thread that completes the count ends the waits of all others, and the barrier is as after init. Any other waits.
abbrev pub wait_at : Option Barrier → ℕ → ℕ → State → List (Entry Barrier) → After
wait_at None t b s bs = unchanged (Done EINVAL) s bs
wait_at (Some barrier) t b s bs =
    if length (waiters b s) + 1 == barrier.count then (record { result = Done SERIAL_THREAD; threads = all_woken 0 (waiters b s) s; barriers = bs })
    else (record { result = Blocked; threads = blocked t (reason.Barrier b) None s; barriers = bs })

abbrev pub wait_row : ℕ → ℕ → State → List (Entry Barrier) → After
wait_row t b s bs = wait_at (lookup b bs) t b s bs
