-- What the calls on cancellation do (POSIX.1-2017, 2.9.5 Thread Cancellation). The thread t makes the call, or acts.
use Rattle.std.specs.Prelude.{ℕ, ◌%◌, ◌==◌, nat_lt, nat_le, Bool, true, if◌then◌else◌, not, Option, Some, None, is_some, List, length}
use Rattle.std.specs.List.{find}
use Rattle.ckrt_thread.specs.declared.records.Cancellation.{Cancellation}
use Rattle.ckrt_thread.specs.declared.records.Handler.{Handler}
use Rattle.ckrt_thread.specs.declared.records.Thread.{Thread}
use Rattle.ckrt_thread.specs.declared.records.Thread.TheVariants as thread
use Rattle.ckrt_thread.specs.declared.records.Wait.{Wait}
use Rattle.ckrt_thread.specs.declared.records.Reason.{Reason}
use Rattle.ckrt_thread.specs.declared.records.Reason.TheVariants as reason
use Rattle.ckrt_thread.specs.declared.records.RetakeResult.TheVariants as retake
use Rattle.ckrt_thread.specs.declared.records.CallResult.TheVariants.{Done, Moved}
use Rattle.ckrt_thread.specs.Abi.{A1}
use Rattle.ckrt_thread.specs.Errors.{ESRCH, EAGAIN, EINVAL}
use Rattle.ckrt_thread.specs.Cancellation.{MAX_HANDLERS, is_pending, is_immediate, unwinding_with, acted_on, cancellation_of, handlers_of}
use Rattle.ckrt_thread.specs.Waits.{is_of}
use Rattle.ckrt_thread.specs.State.{State, thread_of, set_word, unwaited}
use Rattle.ckrt_thread.specs.Unwinding.{newest_handler, next_handler, pushed, popped, entered, with_cancellation_of}
use Rattle.ckrt_thread.specs.Rows as threads
use Rattle.ckrt_objects.specs.declared.address_map.Entry.{Entry}
use Rattle.ckrt_mutex.specs.declared.records.Mutex.{Mutex}
use Rattle.ckrt_mutex.specs.Rows.{After, unchanged}
use Rattle.ckrt_cond.specs.Rows.{resume_row}

abbrev pub cancellation : ℕ → State → Cancellation
cancellation t s = cancellation_of (thread_of s t)

-- UNWINDING. POSIX.1-2017, pthread_exit: the thread goes through its clean-up handlers and the destructors of its values, and
-- then ends with the value. One of these that calls pthread_exit again replaces the value (this project's choice).

abbrev pub unwinding_from : ℕ → ℕ → State → State
unwinding_from t v s = with_cancellation_of t (unwinding_with v (cancellation t s)) s

abbrev pub begin_unwind : ℕ → ℕ → State → State
begin_unwind t v s = next_handler t (unwinding_from t v s)

-- ACTING ON A REQUEST. POSIX.1-2017, 2.9.5: a cancelled thread unwinds, to end with PTHREAD_CANCELED.

-- the request is gone, and the thread unwinds from now on
abbrev pub cancelled : ℕ → State → State
cancelled t s = with_cancellation_of t (acted_on (cancellation t s)) s

abbrev pub act_on_request : ℕ → State → State
act_on_request t s = next_handler t (cancelled t s)

-- whether the thread acts at a cancellation point
abbrev pub acts_at_point : ℕ → State → Bool
acts_at_point t s = is_pending (cancellation t s)

-- whether the thread acts before its next instruction
abbrev pub acts_at_once : ℕ → State → Bool
acts_at_once t s = is_immediate (cancellation t s)

-- POSIX.1-2017, pthread_testcancel, and every other cancellation point
abbrev pub at_point : ℕ → State → State
at_point t s = if acts_at_point t s then act_on_request t s else s

-- REQUESTS. POSIX.1-2017, pthread_cancel. An id that no thread has: ESRCH. Else 0. A thread that has ended gets no request.
-- One that is enabled and waits at a cancellation point acts at once; any other acts later.

abbrev pub with_request : Cancellation → Cancellation
with_request c = record c { is_requested = true }

abbrev pub requested : ℕ → State → State
requested t s = with_cancellation_of t (with_request (cancellation t s)) s

-- the request is left for the thread to act on
abbrev pub left_pending : ℕ → State → List (Entry Mutex) → After
left_pending t s ms = unchanged (Done 0) (requested t s) ms

-- the thread's wait is taken away, and it acts
abbrev pub interrupted : ℕ → State → List (Entry Mutex) → After
interrupted t s ms = unchanged (Done 0) (act_on_request t (unwaited t s)) ms

-- the answer of the call is 0, whatever becomes of the thread that it was for
abbrev pub answered_0 : After → After
answered_0 r = record r { result = Done 0 }

-- The thread unwinds from now on, but has its mutex a again before its next handler runs (POSIX.1-2017,
-- pthread_cond_wait). Its wait is gone, so that it consumes no signal.
abbrev pub interrupted_at_condition : ℕ → ℕ → State → List (Entry Mutex) → After
interrupted_at_condition a t s ms = answered_0 (resume_row t a retake.Unwind (cancelled t s) ms)

-- which waits are cancellation points: a request for an enabled thread that waits for this reason
abbrev pub request_while : Reason → ℕ → State → List (Entry Mutex) → After
request_while reason.Input t s ms = interrupted t s ms
request_while reason.Sleep t s ms = interrupted t s ms
request_while (reason.Join q) t s ms = interrupted t s ms
request_while (reason.Condition c a) t s ms = interrupted_at_condition a t s ms
request_while (reason.Lock a) t s ms = left_pending t s ms
request_while (reason.Retake a r) t s ms = left_pending t s ms
request_while (reason.Barrier b) t s ms = left_pending t s ms
request_while (reason.Read l) t s ms = left_pending t s ms
request_while (reason.Write l) t s ms = left_pending t s ms

abbrev pub request_in : Option Wait → ℕ → State → List (Entry Mutex) → After
request_in None t s ms = left_pending t s ms
request_in (Some w) t s ms = request_while w.reason t s ms

abbrev pub request_live : Bool → ℕ → State → List (Entry Mutex) → After
request_live is_enabled t s ms = if is_enabled then request_in (find (is_of t) s.waits) t s ms else left_pending t s ms

abbrev pub request_for : Option Thread → ℕ → State → List (Entry Mutex) → After
request_for None id s ms = unchanged (Done ESRCH) s ms
request_for (Some (thread.Ended v)) id s ms = unchanged (Done 0) s ms
request_for (Some (thread.Live l)) id s ms = request_live l.cancellation.is_enabled id s ms

abbrev pub request_row : ℕ → State → List (Entry Mutex) → After
request_row id s ms = request_for (thread_of s id) id s ms

-- STATE AND TYPE. POSIX.1-2017, pthread_setcancelstate and pthread_setcanceltype. A number that names none: EINVAL. Else 0,
-- and x11 has the old one. A thread that unwinds stays disabled and deferred (this project's choice).

-- 0 is enabled, 1 disabled (this project's choice)
abbrev pub state_of : Cancellation → ℕ
state_of c = if c.is_enabled then 0 else 1

-- 0 is deferred, 1 asynchronous (this project's choice)
abbrev pub type_of : Cancellation → ℕ
type_of c = if c.is_asynchronous then 1 else 0

abbrev pub with_state : ℕ → Cancellation → Cancellation
with_state n c = if is_some c.unwinding then c else record c { is_enabled = n == 0 }

abbrev pub with_type : ℕ → Cancellation → Cancellation
with_type n c = if is_some c.unwinding then c else record c { is_asynchronous = n == 1 }

-- the thread has this cancellation from now on, and the old setting in x11
abbrev pub set_to : Cancellation → ℕ → ℕ → State → threads.After
set_to c old t s =
    record { result = Done 0; threads = set_word t A1 old (with_cancellation_of t c s) }

abbrev pub set_state_row : ℕ → ℕ → State → threads.After
set_state_row t n s =
    if nat_lt 1 n then threads.unchanged (Done EINVAL) s
    else set_to (with_state n (cancellation t s)) (state_of (cancellation t s)) t s

abbrev pub set_type_row : ℕ → ℕ → State → threads.After
set_type_row t n s =
    if nat_lt 1 n then threads.unchanged (Done EINVAL) s
    else set_to (with_type n (cancellation t s)) (type_of (cancellation t s)) t s

-- CLEAN-UP HANDLERS. POSIX.1-2017, pthread_cleanup_push and pthread_cleanup_pop. At most 16 handlers, and the errors, are
-- this project's choice.

-- A routine that is no multiple of 4: EINVAL. 16 handlers: EAGAIN. Else 0, and the thread has one more.
abbrev pub push_row : ℕ → ℕ → ℕ → State → threads.After
push_row t routine argument s =
    if not (routine % 4 == 0) then threads.unchanged (Done EINVAL) s
    else (if nat_le MAX_HANDLERS (length (handlers_of (thread_of s t))) then threads.unchanged (Done EAGAIN) s
    else (record { result = Done 0; threads = pushed (record { routine = routine; argument = argument }) t s }))

-- No handler: EINVAL. Else the newest is removed: execute 0 answers 0, any other number runs it, and its routine returns to
-- the address back.
abbrev pub pop_of : Option Handler → ℕ → ℕ → ℕ → State → threads.After
pop_of None t execute back s = threads.unchanged (Done EINVAL) s
pop_of (Some h) t execute back s =
    if execute == 0 then (record { result = Done 0; threads = popped (Some h) t s })
    else (record { result = Moved; threads = entered back h t (popped (Some h) t s) })

abbrev pub pop_row : ℕ → ℕ → ℕ → State → threads.After
pop_row t execute back s = pop_of (newest_handler t s) t execute back s
