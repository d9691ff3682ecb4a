-- Which steps put the accesses of threads in an order: those functions that synchronize memory (POSIX.1-2017, 4.12), by what became of
-- them. A condition orders nothing of itself: its mutex does, since a wait may end without a signal (pthread_cond_wait).
use Rattle.std.specs.Prelude.{ℕ, ◌+◌, ◌%◌, ◌^◌, ◌==◌, ◌&&◌, not, Bool, true, false, if◌then◌else◌, List, [], ◌∷◌, ◌++◌, Option, Some, None, is_none, is_some, unwrap_or}
use Rattle.std.specs.List.{find, flat_map}
use Rattle.ckrt_registers.specs.Registers.{Registers, get}
use Rattle.ckrt_thread.specs.Cancellation.{CANCELED}
use Rattle.ckrt_thread.specs.State as threads
use Rattle.ckrt_thread.specs.Waits.{is_for, is_of}
use Rattle.ckrt_thread.specs.declared.records.Object.TheVariants as object
use Rattle.ckrt_thread.specs.declared.records.Reason.{Reason}
use Rattle.ckrt_thread.specs.declared.records.Reason.TheVariants as reason
use Rattle.ckrt_thread.specs.declared.records.Thread.{Thread}
use Rattle.ckrt_thread.specs.declared.records.Thread.TheVariants as thread
use Rattle.ckrt_thread.specs.declared.records.Wait.{Wait}
use Rattle.ckrt_mutex.specs.Mutex.{is_owner, mutex_at}
use Rattle.ckrt_barrier.specs.Rows.{SERIAL_THREAD}
use Rattle.ckrt_rwlock.specs.RwLock.{is_holder, is_reader, is_writer, lock_at}
use Rattle.ckrt_calls.specs.declared.table.Tables.{Tables}
use Rattle.ckrt_calls.specs.declared.number.Call.{Call}
use Rattle.ckrt_calls.specs.declared.number.Call.TheVariants as call
use Rattle.ckrt_calls.specs.declared.number.ThreadCall.{ThreadCall}
use Rattle.ckrt_calls.specs.declared.number.ThreadCall.TheVariants as thread_call
use Rattle.ckrt_calls.specs.declared.number.MutexCall.{MutexCall}
use Rattle.ckrt_calls.specs.declared.number.MutexCall.TheVariants as mutex_call
use Rattle.ckrt_calls.specs.declared.number.ConditionCall.{ConditionCall}
use Rattle.ckrt_calls.specs.declared.number.ConditionCall.TheVariants as condition_call
use Rattle.ckrt_calls.specs.declared.number.BarrierCall.{BarrierCall}
use Rattle.ckrt_calls.specs.declared.number.BarrierCall.TheVariants as barrier_call
use Rattle.ckrt_calls.specs.declared.number.RwLockCall.{RwLockCall}
use Rattle.ckrt_calls.specs.declared.number.RwLockCall.TheVariants as rwlock_call
use Rattle.ckrt_calls.specs.declared.number.CancellationCall.{CancellationCall}
use Rattle.ckrt_calls.specs.declared.number.CancellationCall.TheVariants as cancellation_call
use Rattle.ckrt_calls.specs.Table.{call_of}
use Rattle.ckrt_look_calls.specs.declared.lines.Caller.{Caller}
use Rattle.ckrt_look_clocks.specs.declared.lock.LockName.TheVariants as name
use Rattle.ckrt_look_clocks.specs.declared.operation.Place.{Place}
use Rattle.ckrt_look_clocks.specs.declared.operation.Operation.{Operation}
use Rattle.ckrt_look_races.specs.declared.looking.Before.{Before}
use Rattle.ckrt_look_races.specs.declared.holders.Lock.{Lock}
use Rattle.ckrt_look_races.specs.declared.holders.Lock.TheVariants as lock
use Rattle.ckrt_look_races.specs.Holders.{acquired, ordered, released}
use Rattle.ckrt_look_races.specs.Kit.{unless_of_kit}
use Rattle.ckrt_look_races.specs.Locking.{begins, gives_up_unless, made_anew, takes, taking_of}

-- WHAT BECAME OF A CALL, by the tables behind it

-- the thread is behind its call, with this result
abbrev pub has_result : (pc v : ℕ) → Option Registers → Bool
has_result pc v None = false
has_result pc v (Some r) = r.pc == pc && get r 10 == v

-- a call was answered so
abbrev pub is_answered : (v : ℕ) → Caller → Tables → Bool
is_answered v c after =
    has_result ((c.regs.pc + 4) % 2 ^ 32) v (threads.regs_of (threads.thread_of after.threads c.thread))

abbrev pub waits_now : ℕ → Tables → Bool
waits_now t after = is_some (find (is_of t) after.threads.waits)

abbrev pub if_answered : (v : ℕ) → Caller → Tables → List Operation → List Operation
if_answered v c after os = if is_answered v c after then os else []

-- WHO HAS A LOCK behind a step has taken what was given up before, unless it is one of a kit; its call waits as long as need be, or not

abbrev pub taken_mutex : Place → (t : ℕ) → (waits : Bool) → (a : ℕ) → Tables → List Operation
taken_mutex p t w a after =
    if is_owner t (mutex_at a after.mutexes) then
    unless_of_kit a (acquired t (lock.Mutex a) p
    ∷ takes t w (taking_of t (name.Mutex a) false p after) ∷ [])
    else []

-- readers don't order readers: a reader takes what writers gave up, a writer what both did
abbrev pub taken_to_read : Place → (t : ℕ) → (waits : Bool) → (a : ℕ) → Tables → List Operation
taken_to_read p t w a after =
    if is_reader t (lock_at a after.rwlocks) then
    unless_of_kit a (acquired t (lock.Writers a) p
    ∷ takes t w (taking_of t (name.RwLock a) true p after) ∷ [])
    else []

abbrev pub taken_to_write : Place → (t : ℕ) → (waits : Bool) → (a : ℕ) → Tables → List Operation
taken_to_write p t w a after =
    if is_writer t (lock_at a after.rwlocks) then
    unless_of_kit a (acquired t (lock.Writers a) p ∷ acquired t (lock.Readers a) p
    ∷ takes t w (taking_of t (name.RwLock a) false p after) ∷ [])
    else []

-- a thread that waited unwinds as a cancelled one, and acted on each request; or it has ended as such, or is gone: somebody joined it, or it was
-- detached, and whoever waits ends by a request alone
abbrev pub is_cancelled : Option Thread → Bool
is_cancelled None = true
is_cancelled (Some (thread.Live l)) =
    not l.cancellation.is_requested && unwrap_or l.cancellation.unwinding 0 == CANCELED
is_cancelled (Some (thread.Ended v)) = v == CANCELED

-- it has seen what those did who cancelled it
abbrev pub taken_request : Place → (t : ℕ) → Tables → List Operation
taken_request p t after =
    if is_cancelled (threads.thread_of after.threads t) then acquired t (lock.Request t) p ∷ []
    else []

-- CALLS

-- all that come to a barrier, the last of whom ends the waits, are before all that leave it
abbrev pub is_at_barrier : (b : ℕ) → Wait → Bool
is_at_barrier b w = is_for (object.Barrier b) w

abbrev pub arrived : Place → (t b : ℕ) → Wait → List Operation
arrived p t b w = if is_at_barrier b w then ordered w.thread t p ∷ [] else []

abbrev pub leaves : Place → (t b : ℕ) → Wait → List Operation
leaves p t b w = if is_at_barrier b w then ordered t w.thread p ∷ [] else []

abbrev pub at_barrier : Place → (t b : ℕ) → List Wait → List Operation
at_barrier p t b ws = flat_map (arrived p t b) ws ++ flat_map (leaves p t b) ws

-- what a thread gives up that held a lock to write, or else to read
abbrev pub given_up : Bool → (a : ℕ) → Lock
given_up true a = lock.Writers a
given_up false a = lock.Readers a

-- of a created thread the id is the second answer
abbrev pub second_answer : Option Registers → ℕ
second_answer None = 0
second_answer (Some r) = get r 11

abbrev pub created : Caller → Tables → ℕ
created c after = second_answer (threads.regs_of (threads.thread_of after.threads c.thread))

-- a recursive mutex, and what a thread reads under, it may hold still
abbrev pub given_up_mutex : Place → (t a : ℕ) → Tables → List Operation
given_up_mutex p t a after =
    unless_of_kit a (released t (lock.Mutex a) p
    ∷ gives_up_unless (is_owner t (mutex_at a after.mutexes)) p t (name.Mutex a))

abbrev pub given_up_lock : Place → (t a : ℕ) → (to_write : Bool) → Tables → List Operation
given_up_lock p t a w after =
    unless_of_kit a (released t (given_up w a) p
    ∷ gives_up_unless (is_holder t (lock_at a after.rwlocks)) p t (name.RwLock a))

abbrev pub mutex_anew : Place → (a : ℕ) → List Operation
mutex_anew p a = made_anew p a (name.Mutex a)

abbrev pub rwlock_anew : Place → (a : ℕ) → List Operation
rwlock_anew p a = made_anew p a (name.RwLock a)

abbrev pub of_mutex_call : Place → MutexCall → Caller → Tables → List Operation
of_mutex_call p mutex_call.Lock c after = taken_mutex p c.thread true (get c.regs 10) after
of_mutex_call p mutex_call.TryLock c after = taken_mutex p c.thread false (get c.regs 10) after
of_mutex_call p mutex_call.TimedLock c after = taken_mutex p c.thread false (get c.regs 10) after
of_mutex_call p mutex_call.Unlock c after =
    if_answered 0 c after (given_up_mutex p c.thread (get c.regs 10) after)
of_mutex_call p mutex_call.Init c after = if_answered 0 c after (mutex_anew p (get c.regs 10))
of_mutex_call p mutex_call.Destroy c after = if_answered 0 c after (mutex_anew p (get c.regs 10))

-- who waits at a condition has given up its mutex
abbrev pub begun_wait : Place → Caller → Tables → List Operation
begun_wait p c after =
    if waits_now c.thread after then given_up_mutex p c.thread (get c.regs 11) after else []

abbrev pub of_condition_call : Place → ConditionCall → Caller → Tables → List Operation
of_condition_call p condition_call.Wait c after = begun_wait p c after
of_condition_call p condition_call.TimedWait c after = begun_wait p c after
of_condition_call p _ c after = []

-- these waited at barriers before
abbrev pub of_barrier_call : Place → BarrierCall → Caller → List Wait → Tables → List Operation
of_barrier_call p barrier_call.Wait c ws after =
    if_answered SERIAL_THREAD c after (at_barrier p c.thread (get c.regs 10) ws)
of_barrier_call p _ c ws after = []

-- the thread had the lock to write before
abbrev pub of_rwlock_call : Place → RwLockCall → Caller → Bool → Tables → List Operation
of_rwlock_call p rwlock_call.RdLock c w after =
    taken_to_read p c.thread true (get c.regs 10) after
of_rwlock_call p rwlock_call.TryRdLock c w after =
    taken_to_read p c.thread false (get c.regs 10) after
of_rwlock_call p rwlock_call.WrLock c w after =
    taken_to_write p c.thread true (get c.regs 10) after
of_rwlock_call p rwlock_call.TryWrLock c w after =
    taken_to_write p c.thread false (get c.regs 10) after
of_rwlock_call p rwlock_call.Unlock c w after =
    if_answered 0 c after (given_up_lock p c.thread (get c.regs 10) w after)
of_rwlock_call p rwlock_call.Init c w after = if_answered 0 c after (rwlock_anew p (get c.regs 10))
of_rwlock_call p rwlock_call.Destroy c w after =
    if_answered 0 c after (rwlock_anew p (get c.regs 10))

abbrev pub of_thread_call : Place → ThreadCall → Caller → Tables → List Operation
of_thread_call p thread_call.Create c after =
    if_answered 0 c after (ordered c.thread (created c after) p ∷ begins p (created c after) ∷ [])
of_thread_call p thread_call.Join c after =
    if_answered 0 c after (ordered (get c.regs 10) c.thread p ∷ [])
of_thread_call p _ c after = []

abbrev pub of_cancellation_call : Place → CancellationCall → Caller → Tables → List Operation
of_cancellation_call p cancellation_call.Cancel c after =
    if_answered 0 c after (released c.thread (lock.Request (get c.regs 10)) p ∷ [])
of_cancellation_call p _ c after = []

-- a call, where the thread had its read-write lock to write or not, and these waited
abbrev pub of_call : Place → Option Call → Caller → Bool → List Wait → Tables → List Operation
of_call p (Some (call.Mutex m)) c w ws after = of_mutex_call p m c after
of_call p (Some (call.Condition m)) c w ws after = of_condition_call p m c after
of_call p (Some (call.Barrier m)) c w ws after = of_barrier_call p m c ws after
of_call p (Some (call.RwLock m)) c w ws after = of_rwlock_call p m c w after
of_call p (Some (call.Thread m)) c w ws after = of_thread_call p m c after
of_call p (Some (call.Cancellation m)) c w ws after = of_cancellation_call p m c after
of_call p _ c w ws after = []

abbrev pub of_caller : Place → Option Caller → Bool → List Wait → Tables → List Operation
of_caller p None w ws after = []
of_caller p (Some c) w ws after = of_call p (call_of (get c.regs 17)) c w ws after

-- WAITS THAT ARE OVER

-- who waits for a mutex may have a deadline; behind a condition it gets it without one
abbrev pub of_reason : Place → (t : ℕ) → (waits : Bool) → Reason → Tables → List Operation
of_reason p t w (reason.Lock m) after = taken_mutex p t w m after
of_reason p t w (reason.Retake m r) after = taken_mutex p t true m after
of_reason p t w (reason.Condition c m) after = taken_mutex p t true m after
of_reason p t w (reason.Join u) after =
    if threads.is_live after.threads u then [] else ordered u t p ∷ []
of_reason p t w (reason.Read a) after = taken_to_read p t true a after
of_reason p t w (reason.Write a) after = taken_to_write p t true a after
of_reason p t w _ after = []

abbrev pub of_wait : Place → Tables → Wait → List Operation
of_wait p after w =
    if waits_now w.thread after then [] else of_reason p w.thread (is_none w.deadline) w.reason after

-- the request on which a thread acts that waited; behind a condition it acted before
abbrev pub is_retake : Reason → Bool
is_retake (reason.Retake m r) = true
is_retake _ = false

abbrev pub of_request : Place → Tables → Wait → List Operation
of_request p after w = if is_retake w.reason then [] else taken_request p w.thread after

-- requests come first: who ends by one has seen it before others go on that waited for its end
abbrev pub of_waits : Place → List Wait → Tables → List Operation
of_waits p ws after = flat_map (of_request p after) ws ++ flat_map (of_wait p after) ws

-- A STEP that is no plain instruction

-- of a thread that acts on a request by it
abbrev pub of_acting : Place → Option ℕ → List Operation
of_acting p None = []
of_acting p (Some t) = acquired t (lock.Request t) p ∷ []

-- what is looked at before it: who makes a call by it, whether that thread has the read-write lock of its first argument to write,
-- who acts on a request by it, and who waits
abbrev pub between : Place → Before → Tables → List Operation
between p b after =
    of_caller p b.caller b.is_writer b.waits.items after
    ++ (of_acting p b.acting ++ of_waits p b.waits.items after)
