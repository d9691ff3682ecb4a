-- What the calls on read-write locks do. The thread t makes the call, a is the lock's address.
use Rattle.std.specs.Prelude.{ℕ, ◌+◌, ◌==◌, nat_le, Bool, false, ◌||◌, not, if◌then◌else◌, List, Option, Some, None, is_some}
use Rattle.ckrt_thread.specs.declared.records.Wait.{Wait}
use Rattle.ckrt_thread.specs.declared.records.Reason.{Reason}
use Rattle.ckrt_thread.specs.declared.records.Reason.TheVariants as reason
use Rattle.ckrt_thread.specs.declared.records.Object.TheVariants as object
use Rattle.ckrt_thread.specs.declared.records.CallResult.{CallResult}
use Rattle.ckrt_thread.specs.declared.records.CallResult.TheVariants.{Done, Blocked, Moved}
use Rattle.ckrt_thread.specs.Errors.{EPERM, EAGAIN, EBUSY, EDEADLK}
use Rattle.ckrt_thread.specs.State.{State, blocked, first_waiter}
use Rattle.ckrt_thread.specs.Granting.{GrantRule, grant_waiters}
use Rattle.ckrt_objects.specs.declared.address_map.Entry.{Entry}
use Rattle.ckrt_rwlock.specs.declared.records.RwLock.{RwLock}
use Rattle.ckrt_objects.specs.InUse as objects
use Rattle.ckrt_rwlock.specs.RwLock.{read_count, is_writer, is_reader, is_holder, is_written, is_held, with_writer, with_read_count, given_up, lock_at, put, MAX_READ_COUNT}

-- what a call answers and leaves
pub record After : Type 0 where
  pub result : CallResult
  pub threads : State
  pub locks : List (Entry RwLock)

abbrev pub unchanged : CallResult → State → List (Entry RwLock) → After
unchanged r s ls = record { result = r; threads = s; locks = ls }

-- the lock at the address becomes this one
abbrev pub changed : RwLock → ℕ → State → List (Entry RwLock) → After
changed l a s ls = record { result = Done 0; threads = s; locks = put a l ls }

-- the thread waits
abbrev pub waiting : Reason → ℕ → State → List (Entry RwLock) → After
waiting r t s ls = record { result = Blocked; threads = blocked t r None s; locks = ls }

-- WHICH LOCKS ARE IN USE. One that a thread holds, or that a wait names. At most 64 are (this project's choice).

abbrev pub lock_of : Reason → Option ℕ
lock_of (reason.Read a) = Some a
lock_of (reason.Write a) = Some a
lock_of _ = None

-- the lock that a wait names
abbrev pub named : Wait → Option ℕ
named w = lock_of w.reason

abbrev pub is_used : ℕ → State → List (Entry RwLock) → Bool
is_used a s ls = objects.is_in_use named a s.waits ls

abbrev pub used_count : State → List (Entry RwLock) → ℕ
used_count s ls = objects.count_in_use named s.waits ls

-- it is not in use, and 64 others are
abbrev pub is_full : ℕ → State → List (Entry RwLock) → Bool
is_full a s ls = objects.is_full named 64 a s.waits ls

-- some thread waits for the lock
abbrev pub is_awaited : ℕ → State → Bool
is_awaited a s = is_some (first_waiter (object.RwLock a) s)

-- INIT AND DESTROY. POSIX.1-2017, pthread_rwlock_init and pthread_rwlock_destroy. POSIX leaves undefined what becomes of
-- a lock that is initialised again, or destroyed while it is held: EBUSY where it is in use is this project's choice.
-- Else nothing changes either, since nobody holds the lock.

-- what both answer
abbrev pub if_unused : ℕ → State → List (Entry RwLock) → CallResult
if_unused a s ls = if is_used a s ls then Done EBUSY else Done 0

abbrev pub init_row : ℕ → State → List (Entry RwLock) → After
init_row a s ls = unchanged (if_unused a s ls) s ls

abbrev pub destroy_row : ℕ → State → List (Entry RwLock) → After
destroy_row a s ls = unchanged (if_unused a s ls) s ls

-- RDLOCK. POSIX.1-2017, pthread_rwlock_rdlock. EAGAIN is answered where the thread has 65,535 read locks, or where 64
-- other locks are in use. POSIX leaves it to the implementation whether a reader passes a waiting writer: none passes any
-- waiter, but one that holds a read lock already (this project's choice).

-- the thread has one read lock more
abbrev pub reading : RwLock → ℕ → ℕ → State → List (Entry RwLock) → After
reading l t a s ls = changed (with_read_count t (read_count t l + 1) l) a s ls

-- it has one already, and may have 65,535
abbrev pub reading_again : RwLock → ℕ → ℕ → State → List (Entry RwLock) → After
reading_again l t a s ls = if nat_le MAX_READ_COUNT (read_count t l) then unchanged (Done EAGAIN) s ls else reading l t a s ls

abbrev pub rdlock_of : RwLock → ℕ → ℕ → State → List (Entry RwLock) → After
rdlock_of l t a s ls =
    if is_writer t l then unchanged (Done EDEADLK) s ls
    else (if is_reader t l then reading_again l t a s ls
    else (if is_full a s ls then unchanged (Done EAGAIN) s ls
    else (if is_written l || is_awaited a s then waiting (reason.Read a) t s ls
    else reading l t a s ls)))

abbrev pub rdlock_row : ℕ → ℕ → State → List (Entry RwLock) → After
rdlock_row t a s ls = rdlock_of (lock_at a ls) t a s ls

-- WRLOCK. POSIX.1-2017, pthread_rwlock_wrlock. EAGAIN where 64 other locks are in use is this project's choice.

abbrev pub wrlock_of : RwLock → ℕ → ℕ → State → List (Entry RwLock) → After
wrlock_of l t a s ls =
    if is_holder t l then unchanged (Done EDEADLK) s ls
    else (if is_full a s ls then unchanged (Done EAGAIN) s ls
    else (if is_held l then waiting (reason.Write a) t s ls
    else changed (with_writer (Some t) l) a s ls))

abbrev pub wrlock_row : ℕ → ℕ → State → List (Entry RwLock) → After
wrlock_row t a s ls = wrlock_of (lock_at a ls) t a s ls

-- TRYRDLOCK AND TRYWRLOCK. POSIX.1-2017, pthread_rwlock_tryrdlock and pthread_rwlock_trywrlock: as the call that waits,
-- where that answers 0 or EAGAIN; else EBUSY.

abbrev pub is_0_or_again : CallResult → Bool
is_0_or_again (Done v) = v == 0 || v == EAGAIN
is_0_or_again Blocked = false
is_0_or_again Moved = false

abbrev pub or_busy : After → State → List (Entry RwLock) → After
or_busy r s ls = if is_0_or_again r.result then r else unchanged (Done EBUSY) s ls

abbrev pub tryrdlock_row : ℕ → ℕ → State → List (Entry RwLock) → After
tryrdlock_row t a s ls = or_busy (rdlock_row t a s ls) s ls

abbrev pub trywrlock_row : ℕ → ℕ → State → List (Entry RwLock) → After
trywrlock_row t a s ls = or_busy (wrlock_row t a s ls) s ls

-- UNLOCK. POSIX.1-2017, pthread_rwlock_unlock. EPERM where the thread does not hold the lock is this project's choice
-- (POSIX leaves it undefined), and so is who gets the lock (POSIX leaves it to the scheduling policy): the first waiters,
-- as far as they are admissible.

-- A first reader is admissible where there is no writer, a first writer where there is no holder.
abbrev pub is_admissible_for : Reason → RwLock → Bool
is_admissible_for (reason.Read a) l = not (is_written l)
is_admissible_for (reason.Write a) l = not (is_held l)
is_admissible_for _ l = false

-- a reader gets one read lock, a writer the write lock
abbrev pub granted_for : Reason → ℕ → RwLock → RwLock
granted_for (reason.Read a) t l = with_read_count t 1 l
granted_for (reason.Write a) t l = with_writer (Some t) l
granted_for _ t l = l

abbrev pub rwlock_rule : ℕ → GrantRule RwLock
rwlock_rule a = record {
  object = object.RwLock a;
  is_admissible = λ l w. is_admissible_for w.reason l;
  granted = λ l w. granted_for w.reason w.thread l;
}

-- the lock's first waiters are granted it
abbrev pub released : RwLock → ℕ → State → List (Entry RwLock) → After
released l a s ls =
    let r = grant_waiters (rwlock_rule a) l s in
    changed r.0 a r.1 ls

abbrev pub unlock_of : RwLock → ℕ → ℕ → State → List (Entry RwLock) → After
unlock_of l t a s ls =
    if not (is_holder t l) then unchanged (Done EPERM) s ls
    else released (given_up t l) a s ls

abbrev pub unlock_row : ℕ → ℕ → State → List (Entry RwLock) → After
unlock_row t a s ls = unlock_of (lock_at a ls) t a s ls
