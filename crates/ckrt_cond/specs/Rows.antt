-- What the calls on condition variables do. The thread t makes the call, c is the condition's address and a the mutex's.
-- A condition has no state but its waiters. POSIX.1-2017 permits spurious wake-ups; there are none (this project's choice).
use Rattle.std.specs.Prelude.{ℕ, ◌==◌, nat_le, Bool, false, ◌&&◌, not, if◌then◌else◌, List, [], ◌∷◌, take, Option, Some, None, is_some}
use Rattle.std.specs.List.{list_any}
use Rattle.ckrt_thread.specs.declared.records.Wait.{Wait}
use Rattle.ckrt_thread.specs.declared.records.Reason.{Reason}
use Rattle.ckrt_thread.specs.declared.records.Reason.TheVariants as reason
use Rattle.ckrt_thread.specs.declared.records.Object.TheVariants as object
use Rattle.ckrt_thread.specs.declared.records.RetakeResult.{RetakeResult}
use Rattle.ckrt_thread.specs.declared.records.RetakeResult.TheVariants as retake
use Rattle.ckrt_thread.specs.declared.records.CallResult.TheVariants.{Done, Blocked}
use Rattle.ckrt_thread.specs.Errors.{EPERM, EBUSY, EINVAL}
use Rattle.ckrt_thread.specs.Waits.{is_moment}
use Rattle.ckrt_thread.specs.State.{State, first_waiter, unwaited, blocked}
use Rattle.ckrt_thread.specs.Granting.{queue_of}
use Rattle.ckrt_objects.specs.declared.address_map.Entry.{Entry}
use Rattle.ckrt_mutex.specs.declared.records.Mutex.{Mutex}
use Rattle.ckrt_mutex.specs.Mutex.{is_owner, mutex_at}
use Rattle.ckrt_mutex.specs.Rows.{After, unchanged, unlock_row, retake_row}

-- WHO WAITS

-- the waiters of a condition, in order of the start of waiting
abbrev pub waiters : ℕ → State → List Wait
waiters c s = queue_of (object.Condition c) s

abbrev pub has_waiters : ℕ → State → Bool
has_waiters c s = is_some (first_waiter (object.Condition c) s)

-- whether who waits for this reason is at the condition c, with another mutex than a
abbrev pub is_with_other : ℕ → ℕ → Reason → Bool
is_with_other c a (reason.Condition d b) = c == d && not (a == b)
is_with_other c a _ = false

-- some thread waits at the condition with another mutex
abbrev pub has_other_mutex : ℕ → ℕ → State → Bool
has_other_mutex c a s = list_any (λ w. is_with_other c a w.reason) s.waits

-- INIT AND DESTROY. POSIX.1-2017, pthread_cond_init and pthread_cond_destroy. POSIX leaves undefined what becomes of a
-- condition that is initialised again, or destroyed while threads wait: EBUSY then is this project's choice.

abbrev pub init_row : ℕ → State → List (Entry Mutex) → After
init_row c s ms = if has_waiters c s then unchanged (Done EBUSY) s ms else unchanged (Done 0) s ms

abbrev pub destroy_row : ℕ → State → List (Entry Mutex) → After
destroy_row c s ms = if has_waiters c s then unchanged (Done EBUSY) s ms else unchanged (Done 0) s ms

-- WAIT AND TIMEDWAIT. POSIX.1-2017, pthread_cond_wait and pthread_cond_timedwait. EPERM for every kind of mutex, and
-- EINVAL where others wait with another mutex, are this project's choice (POSIX leaves the latter undefined).

-- why a wait may not begin
abbrev pub wait_refusal : ℕ → ℕ → ℕ → State → List (Entry Mutex) → Option ℕ
wait_refusal t c a s ms =
    if not (is_owner t (mutex_at a ms)) then Some EPERM
    else (if has_other_mutex c a s then Some EINVAL else None)

-- One level of the mutex is released as by unlock, with its hand-over, and the same step goes on from there.
abbrev pub released_then : (State → List (Entry Mutex) → After) → Option ℕ → ℕ → ℕ → State
    → List (Entry Mutex) → After
released_then next (Some e) t a s ms = unchanged (Done e) s ms
released_then next None t a s ms = (let r = unlock_row t a s ms in next r.threads r.mutexes)

-- the thread waits at the condition, until the moment d if there is one
abbrev pub waiting_at : ℕ → ℕ → ℕ → Option ℕ → State → List (Entry Mutex) → After
waiting_at t c a d s ms =
    record { result = Blocked; threads = blocked t (reason.Condition c a) d s; mutexes = ms }

abbrev pub wait_row : ℕ → ℕ → ℕ → State → List (Entry Mutex) → After
wait_row t c a s ms = released_then (waiting_at t c a None) (wait_refusal t c a s ms) t a s ms

-- A moment d that is due at the clock's n: the mutex is released and retaken with ETIMEDOUT.
abbrev pub timedwait_row : ℕ → ℕ → ℕ → ℕ → ℕ → State → List (Entry Mutex) → After
timedwait_row t c a d n s ms =
    if not (is_moment d) then unchanged (Done EINVAL) s ms
    else (if nat_le d n then released_then (retake_row t a retake.TimedOut) (wait_refusal t c a s ms) t a s ms
    else released_then (waiting_at t c a (Some d)) (wait_refusal t c a s ms) t a s ms)

-- SIGNAL AND BROADCAST. POSIX.1-2017, pthread_cond_signal and pthread_cond_broadcast. That a signal wakes one thread, the
-- longest waiting, and that a broadcast wakes them in order, is this project's choice (POSIX leaves it to the scheduling
-- policy, and lets a signal wake more).

-- A condition wait of the thread t ends, and it retakes its mutex with the result r.
abbrev pub resume_row : ℕ → ℕ → RetakeResult → State → List (Entry Mutex) → After
resume_row t a r s ms = retake_row t a r (unwaited t s) ms

-- a signal ends a wait at a condition, and no other wait
abbrev pub woken_from : Reason → ℕ → State → List (Entry Mutex) → After
woken_from (reason.Condition c a) t s ms = resume_row t a retake.Done s ms
woken_from _ t s ms = unchanged (Done 0) s ms

-- these waiters are woken in turn
abbrev pub all_woken : List Wait → State → List (Entry Mutex) → After
all_woken [] s ms = unchanged (Done 0) s ms
all_woken (w ∷ ws) s ms = (let r = woken_from w.reason w.thread s ms in all_woken ws r.threads r.mutexes)

abbrev pub signal_row : ℕ → State → List (Entry Mutex) → After
signal_row c s ms = all_woken (take 1 (waiters c s)) s ms

abbrev pub broadcast_row : ℕ → State → List (Entry Mutex) → After
broadcast_row c s ms = all_woken (waiters c s) s ms
