-- What the calls on mutexes do. The thread t makes the call, a is the mutex's address.
use Rattle.std.specs.Prelude.{ℕ, ◌+◌, ◌-◌, ◌==◌, nat_lt, nat_le, Bool, ◌&&◌, ◌||◌, not, if◌then◌else◌, List, Option, Some, None, is_none}
use Rattle.ckrt_thread.specs.declared.records.Wait.{Wait}
use Rattle.ckrt_thread.specs.declared.records.Reason.{Reason}
use Rattle.ckrt_thread.specs.declared.records.Reason.TheVariants as reason
use Rattle.ckrt_thread.specs.declared.records.Object.TheVariants as object
use Rattle.ckrt_thread.specs.declared.records.CallResult.{CallResult}
use Rattle.ckrt_thread.specs.declared.records.CallResult.TheVariants.{Done, Blocked, Moved}
use Rattle.ckrt_thread.specs.State.{State, blocked}
use Rattle.ckrt_thread.specs.Granting.{GrantRule, grant_waiters, answered}
use Rattle.ckrt_thread.specs.Waits.{retake_code, is_moment}
use Rattle.ckrt_thread.specs.declared.records.RetakeResult.{RetakeResult}
use Rattle.ckrt_objects.specs.declared.address_map.Entry.{Entry}
use Rattle.ckrt_mutex.specs.declared.records.Kind.{Kind}
use Rattle.ckrt_mutex.specs.declared.records.Kind.TheVariants.{Normal, Recursive, ErrorCheck}
use Rattle.ckrt_mutex.specs.declared.records.Mutex.{Mutex}
use Rattle.ckrt_thread.specs.Errors.{EPERM, EAGAIN, EBUSY, EINVAL, EDEADLK, ETIMEDOUT}
use Rattle.ckrt_objects.specs.InUse as in_use
use Rattle.ckrt_mutex.specs.Mutex.{free, owned, is_owned, is_owner, is_available, is_normal, is_errorcheck, mutex_at, put, MAX_RECURSIVE_COUNT}

-- what a call answers and leaves
pub record After : Type 0 where
  pub result : CallResult
  pub threads : State
  pub mutexes : List (Entry Mutex)

abbrev pub unchanged : CallResult → State → List (Entry Mutex) → After
unchanged r s ms = record { result = r; threads = s; mutexes = ms }

-- WHICH MUTEXES ARE IN USE. One that is owned, or not normal, or named by a wait. At most 256 are (this project's choice).

abbrev pub mutex_of : Reason → Option ℕ
mutex_of (reason.Lock a) = Some a
mutex_of (reason.Retake a r) = Some a
mutex_of (reason.Condition c a) = Some a
mutex_of _ = None

-- the mutex that a wait names
abbrev pub named : Wait → Option ℕ
named w = mutex_of w.reason

-- whether a wait names the mutex
abbrev pub is_named : ℕ → State → Bool
is_named a s = in_use.is_named named a s.waits

abbrev pub is_used : ℕ → State → List (Entry Mutex) → Bool
is_used a s ms = in_use.is_in_use named a s.waits ms

abbrev pub used_count : State → List (Entry Mutex) → ℕ
used_count s ms = in_use.count_in_use named s.waits ms

-- it is not in use, and 256 others are
abbrev pub is_full : ℕ → State → List (Entry Mutex) → Bool
is_full a s ms = in_use.is_full named 256 a s.waits ms

-- owned, or named by a wait
abbrev pub is_busy : ℕ → State → List (Entry Mutex) → Bool
is_busy a s ms = is_owned (mutex_at a ms) || is_named a s

-- INIT AND DESTROY. POSIX.1-2017, pthread_mutex_init, pthread_mutex_destroy and pthread_mutexattr_settype. POSIX leaves
-- undefined what becomes of a mutex that is initialised again, or destroyed while it is locked or waited for: EBUSY
-- where it is busy is this project's choice.

-- the kind that a number names (this project's choice)
abbrev pub kind_of : ℕ → Option Kind
kind_of n = if n == 0 then Some Normal else (if n == 1 then Some Recursive else (if n == 2 then Some ErrorCheck else None))

abbrev pub init_kind : Option Kind → ℕ → State → List (Entry Mutex) → After
init_kind None a s ms = unchanged (Done EINVAL) s ms
init_kind (Some k) a s ms =
    if is_busy a s ms then unchanged (Done EBUSY) s ms
    else (if not (is_normal k) && is_full a s ms then unchanged (Done EAGAIN) s ms
    else (record { result = Done 0; threads = s; mutexes = put a (free k) ms }))

abbrev pub init_row : ℕ → ℕ → State → List (Entry Mutex) → After
init_row a kind s ms = init_kind (kind_of kind) a s ms

-- free and normal again, as one that was never initialised
abbrev pub destroy_row : ℕ → State → List (Entry Mutex) → After
destroy_row a s ms =
    if is_busy a s ms then unchanged (Done EBUSY) s ms
    else (record { result = Done 0; threads = s; mutexes = put a (free Normal) ms })

-- LOCK AND TRYLOCK. POSIX.1-2017, pthread_mutex_lock and pthread_mutex_trylock. EAGAIN where 256 other mutexes are in
-- use is this project's choice.

-- An available mutex is locked once more: a free one, which is locked 0 times, for the first time.
abbrev pub taken : Mutex → ℕ → ℕ → State → List (Entry Mutex) → After
taken m t a s ms =
    if nat_le MAX_RECURSIVE_COUNT m.count || is_full a s ms then unchanged (Done EAGAIN) s ms
    else (record { result = Done 0; threads = s; mutexes = put a (owned m.kind t (m.count + 1)) ms })

-- An error-checking mutex finds the deadlock of an owner that locks it again; a normal one has it. `wait` is what comes
-- of it where the thread would have to wait.
abbrev pub taken_or : After → Mutex → ℕ → ℕ → State → List (Entry Mutex) → After
taken_or wait m t a s ms =
    if is_available t m then taken m t a s ms
    else (if is_owner t m && is_errorcheck m.kind then unchanged (Done EDEADLK) s ms
    else wait)

-- the thread waits for the mutex, until the deadline at the latest if there is one
abbrev pub waiting : ℕ → ℕ → Option ℕ → State → List (Entry Mutex) → After
waiting t a d s ms =
    record { result = Blocked; threads = blocked t (reason.Lock a) d s; mutexes = ms }

abbrev pub lock_of : Mutex → ℕ → ℕ → State → List (Entry Mutex) → After
lock_of m t a s ms = taken_or (waiting t a None s ms) m t a s ms

abbrev pub lock_row : ℕ → ℕ → State → List (Entry Mutex) → After
lock_row t a s ms = lock_of (mutex_at a ms) t a s ms

-- TIMEDLOCK. POSIX.1-2017, pthread_mutex_timedlock: as lock; where that would wait, a moment out of range is EINVAL, and
-- one that the clock has reached ETIMEDOUT.
abbrev pub waiting_until : ℕ → ℕ → ℕ → ℕ → State → List (Entry Mutex) → After
waiting_until t a moment clock s ms =
    if not (is_moment moment) then unchanged (Done EINVAL) s ms
    else (if nat_le moment clock then unchanged (Done ETIMEDOUT) s ms
    else waiting t a (Some moment) s ms)

abbrev pub timedlock_of : Mutex → ℕ → ℕ → ℕ → ℕ → State → List (Entry Mutex) → After
timedlock_of m t a moment clock s ms = taken_or (waiting_until t a moment clock s ms) m t a s ms

abbrev pub timedlock_row : ℕ → ℕ → ℕ → ℕ → State → List (Entry Mutex) → After
timedlock_row t a moment clock s ms = timedlock_of (mutex_at a ms) t a moment clock s ms

abbrev pub trylock_of : Mutex → ℕ → ℕ → State → List (Entry Mutex) → After
trylock_of m t a s ms = if is_available t m then taken m t a s ms else unchanged (Done EBUSY) s ms

abbrev pub trylock_row : ℕ → ℕ → State → List (Entry Mutex) → After
trylock_row t a s ms = trylock_of (mutex_at a ms) t a s ms

-- UNLOCK. POSIX.1-2017, pthread_mutex_unlock. EPERM for every kind is this project's choice (POSIX leaves it undefined
-- at a normal mutex), and so is who gets the mutex (POSIX leaves it to the scheduling policy): the longest waiting.

-- A first wait is admissible where the mutex is free, and makes its thread the owner.
abbrev pub mutex_rule : ℕ → GrantRule Mutex
mutex_rule a = record {
  object = object.Mutex a;
  is_admissible = λ m w. is_none m.owner;
  granted = λ m w. owned m.kind w.thread 1;
}

-- the mutex is free, and its waiters are granted
abbrev pub released : Kind → ℕ → State → List (Entry Mutex) → After
released k a s ms =
    let r = grant_waiters (mutex_rule a) (free k) s in
    record { result = Done 0; threads = r.1; mutexes = put a r.0 ms }

abbrev pub unlock_of : Mutex → ℕ → ℕ → State → List (Entry Mutex) → After
unlock_of m t a s ms =
    if not (is_owner t m) then unchanged (Done EPERM) s ms
    else (if nat_lt 1 m.count then (record { result = Done 0; threads = s; mutexes = put a (owned m.kind t (m.count - 1)) ms })
    else released m.kind a s ms)

abbrev pub unlock_row : ℕ → ℕ → State → List (Entry Mutex) → After
unlock_row t a s ms = unlock_of (mutex_at a ms) t a s ms

-- RETAKE. POSIX.1-2017, pthread_cond_wait: the mutex is locked again before the thread goes on, here with the result r. A
-- cancelled thread (2.9.5, Thread Cancellation) goes to its next handler then. That a thread waits at the end of the
-- mutex's queue is this project's choice.

-- what a thread is answered that has its mutex again
abbrev pub answer_of : Option ℕ → CallResult
answer_of (Some v) = Done v
answer_of None = Moved

abbrev pub retake_of : Mutex → ℕ → ℕ → RetakeResult → State → List (Entry Mutex) → After
retake_of m t a r s ms =
    if is_available t m then (record { result = answer_of (retake_code r); threads = answered (retake_code r) t s; mutexes = put a (owned m.kind t (m.count + 1)) ms })
    else (record { result = Blocked; threads = blocked t (reason.Retake a r) None s; mutexes = ms })

abbrev pub retake_row : ℕ → ℕ → RetakeResult → State → List (Entry Mutex) → After
retake_row t a r s ms = retake_of (mutex_at a ms) t a r s ms
