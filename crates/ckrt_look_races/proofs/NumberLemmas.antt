-- Operations that order have the numbers of holders, and the place of their step.
use Rattle.std.proofs.Common.{◌≡◌, ◌<◌, ℕ, nat_le, Bool, true, false, if◌then◌else◌, List, [], ◌∷◌, ◌++◌, Option, Some, None, is_none, refl, arith}
use Rattle.std.proofs.lemmas.Bool.Decides.{nat_tests}
use Rattle.std.specs.List.{AllByRecursion, flat_map}
use Rattle.ckrt_registers.specs.Registers.{Registers, get}
use Rattle.ckrt_thread.specs.declared.records.Reason.{Reason}
use Rattle.ckrt_thread.specs.declared.records.Reason.TheVariants as reason
use Rattle.ckrt_thread.specs.declared.records.Wait.{Wait}
use Rattle.ckrt_thread.specs.State as threads
use Rattle.ckrt_mutex.specs.Mutex.{is_owner, mutex_at}
use Rattle.ckrt_barrier.specs.Rows.{SERIAL_THREAD}
use Rattle.ckrt_rwlock.specs.RwLock.{is_holder, is_reader, is_writer, lock_at}
use Rattle.ckrt_calls.specs.declared.table.Tables.{Tables}
use Rattle.ckrt_calls.specs.declared.number.Call.{Call}
use Rattle.ckrt_calls.specs.declared.number.Call.TheVariants as call
use Rattle.ckrt_calls.specs.declared.number.ThreadCall.{ThreadCall}
use Rattle.ckrt_calls.specs.declared.number.ThreadCall.TheVariants as thread_call
use Rattle.ckrt_calls.specs.declared.number.MutexCall.{MutexCall}
use Rattle.ckrt_calls.specs.declared.number.MutexCall.TheVariants as mutex_call
use Rattle.ckrt_calls.specs.declared.number.ConditionCall.{ConditionCall}
use Rattle.ckrt_calls.specs.declared.number.ConditionCall.TheVariants as condition_call
use Rattle.ckrt_calls.specs.declared.number.BarrierCall.{BarrierCall}
use Rattle.ckrt_calls.specs.declared.number.BarrierCall.TheVariants as barrier_call
use Rattle.ckrt_calls.specs.declared.number.RwLockCall.{RwLockCall}
use Rattle.ckrt_calls.specs.declared.number.RwLockCall.TheVariants as rwlock_call
use Rattle.ckrt_calls.specs.declared.number.CancellationCall.{CancellationCall}
use Rattle.ckrt_calls.specs.declared.number.CancellationCall.TheVariants as cancellation_call
use Rattle.ckrt_calls.specs.Table.{call_of}
use Rattle.ckrt_look_calls.specs.declared.lines.Caller.{Caller}
use Rattle.ckrt_look_clocks.specs.declared.lock.LockName.{LockName}
use Rattle.ckrt_look_clocks.specs.declared.lock.LockName.TheVariants as name
use Rattle.ckrt_look_clocks.specs.declared.lock.Locking.TheVariants as locking
use Rattle.ckrt_look_clocks.specs.declared.operation.Place.{Place}
use Rattle.ckrt_look_clocks.specs.declared.operation.Operation.{Operation}
use Rattle.ckrt_look_clocks.specs.declared.operation.Operation.TheVariants as operation
use Rattle.ckrt_look_races.specs.declared.looking.Before.{Before}
use Rattle.ckrt_look_races.specs.declared.holders.Lock.{Lock}
use Rattle.ckrt_look_races.specs.declared.holders.Lock.TheVariants as lock
use Rattle.ckrt_look_races.specs.Holders.{HOLDERS, acquired, lock_holder, ordered, released, thread_holder}
use Rattle.ckrt_look_races.specs.Kit.{is_of_kit, unless_of_kit}
use Rattle.ckrt_look_races.specs.Locking.{begins, gives_up, gives_up_unless, made_anew, takes, taking_by, taking_of}
use Rattle.ckrt_look_races.specs.Orders as orders

-- NUMBERS

pub thread_number : (t : ℕ) → thread_holder t < 65
thread_number t = go (nat_le t 64) refl
  where
    go : (b : Bool) → nat_le t 64 ≡ b → (if b then t else 0) < 65
    go true e = grind (arith, nat_tests, e)
    go false e = omega arith

pub lock_number : (l : Lock) → lock_holder l < HOLDERS
lock_number (lock.Mutex a) = omega arith
lock_number (lock.Writers a) = omega arith
lock_number (lock.Readers a) = omega arith
lock_number (lock.Word a) = omega arith
lock_number (lock.Request t) = omega (arith, thread_number t)
lock_number (lock.Loaded t) = omega (arith, thread_number t)
lock_number (lock.Fenced t) = omega (arith, thread_number t)

-- a pass at a place, or what is done with a lock there
abbrev pub IsPassAt : Place → Operation → Type 0
IsPassAt p (operation.Access a) = ⊥
IsPassAt p (operation.Renew b) = ⊥
IsPassAt p (operation.Lock l q) = q ≡ p
IsPassAt p (operation.Pass from to q) = (from < HOLDERS) × (to < HOLDERS) × (q ≡ p)

abbrev pub ArePassesAt : Place → List Operation → Type 0
ArePassesAt p os = AllByRecursion (IsPassAt p) os

pub is_release : (t : ℕ) (l : Lock) (p : Place) → IsPassAt p (released t l p)
is_release t l p = (omega (arith, thread_number t), lock_number l, refl)

pub is_acquisition : (t : ℕ) (l : Lock) (p : Place) → IsPassAt p (acquired t l p)
is_acquisition t l p = (lock_number l, omega (arith, thread_number t), refl)

pub is_order : (t u : ℕ) (p : Place) → IsPassAt p (ordered t u p)
is_order t u p = (omega (arith, thread_number t), omega (arith, thread_number u), refl)

-- LISTS OF THEM

if_so : (p : Place) (b : Bool) (os : List Operation) → ArePassesAt p os → ArePassesAt p (if b then os else [])
if_so p true os are = are
if_so p false os are = tt

if_not : (p : Place) (b : Bool) (os : List Operation) → ArePassesAt p os → ArePassesAt p (if b then [] else os)
if_not p true os are = tt
if_not p false os are = are

unless_kit : (p : Place) (a : ℕ) (os : List Operation) → ArePassesAt p os → ArePassesAt p (unless_of_kit a os)
unless_kit p a os are = if_not p (is_of_kit a) os are

both : (p : Place) (xs ys : List Operation) → ArePassesAt p xs → ArePassesAt p ys → ArePassesAt p (xs ++ ys)
both p [] ys are also = also
both p (x ∷ xs) ys are also = (are.0, both p xs ys are.1 also)

each : (p : Place) (f : Wait → List Operation) (ws : List Wait) → ((w : Wait) → ArePassesAt p (f w)) → ArePassesAt p (flat_map f ws)
each p f [] are = tt
each p f (w ∷ ws) are = both p (f w) (flat_map f ws) (are w) (each p f ws are)

module _ (p : Place) where
  taking_at : (t : ℕ) (l : LockName) (reads : Bool) (g : Option Registers) → (taking_by l reads p g).place ≡ p
  taking_at t l reads None = refl
  taking_at t l reads (Some g) = refl

  taken_at : (t : ℕ) (w : Bool) (l : LockName) (reads : Bool) (after : Tables) → IsPassAt p (takes t w (taking_of t l reads p after))
  taken_at t w l reads after = taking_at t l reads (threads.regs_of (threads.thread_of after.threads t))

  mutex_passes : (t : ℕ) (w : Bool) (a : ℕ) (after : Tables) → ArePassesAt p (orders.taken_mutex p t w a after)
  mutex_passes t w a after =
      let os : List Operation = acquired t (lock.Mutex a) p ∷ takes t w (taking_of t (name.Mutex a) false p after) ∷ [] in
      if_so p (is_owner t (mutex_at a after.mutexes)) (unless_of_kit a os)
      (unless_kit p a os (is_acquisition t (lock.Mutex a) p, (taken_at t w (name.Mutex a) false after, tt)))

  read_passes : (t : ℕ) (w : Bool) (a : ℕ) (after : Tables) → ArePassesAt p (orders.taken_to_read p t w a after)
  read_passes t w a after =
      let os : List Operation = acquired t (lock.Writers a) p ∷ takes t w (taking_of t (name.RwLock a) true p after) ∷ [] in
      if_so p (is_reader t (lock_at a after.rwlocks)) (unless_of_kit a os)
      (unless_kit p a os (is_acquisition t (lock.Writers a) p, (taken_at t w (name.RwLock a) true after, tt)))

  write_passes : (t : ℕ) (w : Bool) (a : ℕ) (after : Tables) → ArePassesAt p (orders.taken_to_write p t w a after)
  write_passes t w a after =
      let os : List Operation = acquired t (lock.Writers a) p ∷ acquired t (lock.Readers a) p ∷ takes t w (taking_of t (name.RwLock a) false p after) ∷ [] in
      if_so p (is_writer t (lock_at a after.rwlocks)) (unless_of_kit a os)
      (unless_kit p a os (is_acquisition t (lock.Writers a) p, (is_acquisition t (lock.Readers a) p, (taken_at t w (name.RwLock a) false after, tt))))

  request_passes : (t : ℕ) (after : Tables) → ArePassesAt p (orders.taken_request p t after)
  request_passes t after = if_so p (orders.is_cancelled (threads.thread_of after.threads t)) (acquired t (lock.Request t) p ∷ []) (is_acquisition t (lock.Request t) p, tt)

  answered_passes : (v : ℕ) (c : Caller) (after : Tables) (os : List Operation) → ArePassesAt p os → ArePassesAt p (orders.if_answered v c after os)
  answered_passes v c after os are = if_so p (orders.is_answered v c after) os are

  given_up_unless : (still : Bool) (t : ℕ) (l : LockName) → ArePassesAt p (gives_up_unless still p t l)
  given_up_unless still t l = if_not p still (gives_up p t l ∷ []) (refl, tt)

  mutex_given_up : (t a : ℕ) (after : Tables) → ArePassesAt p (orders.given_up_mutex p t a after)
  mutex_given_up t a after =
      unless_kit p a (released t (lock.Mutex a) p ∷ gives_up_unless (is_owner t (mutex_at a after.mutexes)) p t (name.Mutex a))
      (is_release t (lock.Mutex a) p, given_up_unless (is_owner t (mutex_at a after.mutexes)) t (name.Mutex a))

  lock_given_up : (t a : ℕ) (w : Bool) (after : Tables) → ArePassesAt p (orders.given_up_lock p t a w after)
  lock_given_up t a w after =
      unless_kit p a (released t (orders.given_up w a) p ∷ gives_up_unless (is_holder t (lock_at a after.rwlocks)) p t (name.RwLock a))
      (is_release t (orders.given_up w a) p, given_up_unless (is_holder t (lock_at a after.rwlocks)) t (name.RwLock a))

  anew_passes : (a : ℕ) (l : LockName) → ArePassesAt p (made_anew p a l)
  anew_passes a l = unless_kit p a (operation.Lock (locking.Renew l) p ∷ []) (refl, tt)

  mutex_call_passes : (m : MutexCall) (c : Caller) (after : Tables) → ArePassesAt p (orders.of_mutex_call p m c after)
  mutex_call_passes mutex_call.Lock c after = mutex_passes c.thread true (get c.regs 10) after
  mutex_call_passes mutex_call.TryLock c after = mutex_passes c.thread false (get c.regs 10) after
  mutex_call_passes mutex_call.TimedLock c after = mutex_passes c.thread false (get c.regs 10) after
  mutex_call_passes mutex_call.Unlock c after = answered_passes 0 c after (orders.given_up_mutex p c.thread (get c.regs 10) after) (mutex_given_up c.thread (get c.regs 10) after)
  mutex_call_passes mutex_call.Init c after = answered_passes 0 c after (orders.mutex_anew p (get c.regs 10)) (anew_passes (get c.regs 10) (name.Mutex (get c.regs 10)))
  mutex_call_passes mutex_call.Destroy c after = answered_passes 0 c after (orders.mutex_anew p (get c.regs 10)) (anew_passes (get c.regs 10) (name.Mutex (get c.regs 10)))

  begun_passes : (c : Caller) (after : Tables) → ArePassesAt p (orders.begun_wait p c after)
  begun_passes c after = if_so p (orders.waits_now c.thread after) (orders.given_up_mutex p c.thread (get c.regs 11) after) (mutex_given_up c.thread (get c.regs 11) after)

  condition_call_passes : (m : ConditionCall) (c : Caller) (after : Tables) → ArePassesAt p (orders.of_condition_call p m c after)
  condition_call_passes condition_call.Wait c after = begun_passes c after
  condition_call_passes condition_call.TimedWait c after = begun_passes c after
  condition_call_passes condition_call.Init c after = tt
  condition_call_passes condition_call.Destroy c after = tt
  condition_call_passes condition_call.Signal c after = tt
  condition_call_passes condition_call.Broadcast c after = tt

  barrier_passes : (t b : ℕ) (ws : List Wait) → ArePassesAt p (orders.at_barrier p t b ws)
  barrier_passes t b ws =
      both p (flat_map (orders.arrived p t b) ws) (flat_map (orders.leaves p t b) ws)
      (each p (orders.arrived p t b) ws (λ w. if_so p (orders.is_at_barrier b w) (ordered w.thread t p ∷ []) (is_order w.thread t p, tt)))
      (each p (orders.leaves p t b) ws (λ w. if_so p (orders.is_at_barrier b w) (ordered t w.thread p ∷ []) (is_order t w.thread p, tt)))

  barrier_call_passes : (m : BarrierCall) (c : Caller) (ws : List Wait) (after : Tables) → ArePassesAt p (orders.of_barrier_call p m c ws after)
  barrier_call_passes barrier_call.Wait c ws after = answered_passes SERIAL_THREAD c after (orders.at_barrier p c.thread (get c.regs 10) ws) (barrier_passes c.thread (get c.regs 10) ws)
  barrier_call_passes barrier_call.Init c ws after = tt
  barrier_call_passes barrier_call.Destroy c ws after = tt

  rwlock_call_passes : (m : RwLockCall) (c : Caller) (w : Bool) (after : Tables) → ArePassesAt p (orders.of_rwlock_call p m c w after)
  rwlock_call_passes rwlock_call.RdLock c w after = read_passes c.thread true (get c.regs 10) after
  rwlock_call_passes rwlock_call.TryRdLock c w after = read_passes c.thread false (get c.regs 10) after
  rwlock_call_passes rwlock_call.WrLock c w after = write_passes c.thread true (get c.regs 10) after
  rwlock_call_passes rwlock_call.TryWrLock c w after = write_passes c.thread false (get c.regs 10) after
  rwlock_call_passes rwlock_call.Unlock c w after =
      answered_passes 0 c after (orders.given_up_lock p c.thread (get c.regs 10) w after) (lock_given_up c.thread (get c.regs 10) w after)
  rwlock_call_passes rwlock_call.Init c w after = answered_passes 0 c after (orders.rwlock_anew p (get c.regs 10)) (anew_passes (get c.regs 10) (name.RwLock (get c.regs 10)))
  rwlock_call_passes rwlock_call.Destroy c w after = answered_passes 0 c after (orders.rwlock_anew p (get c.regs 10)) (anew_passes (get c.regs 10) (name.RwLock (get c.regs 10)))

  thread_call_passes : (m : ThreadCall) (c : Caller) (after : Tables) → ArePassesAt p (orders.of_thread_call p m c after)
  thread_call_passes thread_call.Create c after = answered_passes 0 c after (ordered c.thread (orders.created c after) p ∷ begins p (orders.created c after) ∷ []) (is_order c.thread (orders.created c after) p, (refl, tt))
  thread_call_passes thread_call.Join c after = answered_passes 0 c after (ordered (get c.regs 10) c.thread p ∷ []) (is_order (get c.regs 10) c.thread p, tt)
  thread_call_passes thread_call.Detach c after = tt
  thread_call_passes thread_call.Exit c after = tt
  thread_call_passes thread_call.SelfId c after = tt

  cancellation_call_passes : (m : CancellationCall) (c : Caller) (after : Tables) → ArePassesAt p (orders.of_cancellation_call p m c after)
  cancellation_call_passes cancellation_call.Cancel c after =
      answered_passes 0 c after (released c.thread (lock.Request (get c.regs 10)) p ∷ []) (is_release c.thread (lock.Request (get c.regs 10)) p, tt)
  cancellation_call_passes cancellation_call.TestCancel c after = tt
  cancellation_call_passes cancellation_call.SetCancelState c after = tt
  cancellation_call_passes cancellation_call.SetCancelType c after = tt
  cancellation_call_passes cancellation_call.CleanupPush c after = tt
  cancellation_call_passes cancellation_call.CleanupPop c after = tt

  call_passes : (o : Option Call) (c : Caller) (w : Bool) (ws : List Wait) (after : Tables) → ArePassesAt p (orders.of_call p o c w ws after)
  call_passes None c w ws after = tt
  call_passes (Some (call.Process m)) c w ws after = tt
  call_passes (Some (call.Thread m)) c w ws after = thread_call_passes m c after
  call_passes (Some (call.Mutex m)) c w ws after = mutex_call_passes m c after
  call_passes (Some (call.Condition m)) c w ws after = condition_call_passes m c after
  call_passes (Some (call.Barrier m)) c w ws after = barrier_call_passes m c ws after
  call_passes (Some (call.RwLock m)) c w ws after = rwlock_call_passes m c w after
  call_passes (Some (call.Cancellation m)) c w ws after = cancellation_call_passes m c after
  call_passes (Some (call.Key m)) c w ws after = tt

  caller_passes : (o : Option Caller) (w : Bool) (ws : List Wait) (after : Tables) → ArePassesAt p (orders.of_caller p o w ws after)
  caller_passes None w ws after = tt
  caller_passes (Some c) w ws after = call_passes (call_of (get c.regs 17)) c w ws after

  reason_passes : (t : ℕ) (w : Bool) (r : Reason) (after : Tables) → ArePassesAt p (orders.of_reason p t w r after)
  reason_passes t w (reason.Lock m) after = mutex_passes t w m after
  reason_passes t w (reason.Retake m r) after = mutex_passes t true m after
  reason_passes t w (reason.Condition c m) after = mutex_passes t true m after
  reason_passes t w (reason.Join u) after = if_not p (threads.is_live after.threads u) (ordered u t p ∷ []) (is_order u t p, tt)
  reason_passes t w (reason.Read a) after = read_passes t true a after
  reason_passes t w (reason.Write a) after = write_passes t true a after
  reason_passes t w (reason.Barrier b) after = tt
  reason_passes t w reason.Input after = tt
  reason_passes t w reason.Sleep after = tt

  wait_passes : (after : Tables) (w : Wait) → ArePassesAt p (orders.of_wait p after w)
  wait_passes after w = if_not p (orders.waits_now w.thread after) (orders.of_reason p w.thread (is_none w.deadline) w.reason after) (reason_passes w.thread (is_none w.deadline) w.reason after)

  acted_passes : (after : Tables) (w : Wait) → ArePassesAt p (orders.of_request p after w)
  acted_passes after w = if_not p (orders.is_retake w.reason) (orders.taken_request p w.thread after) (request_passes w.thread after)

  pub waits_pass : (ws : List Wait) (after : Tables) → ArePassesAt p (orders.of_waits p ws after)
  waits_pass ws after =
      both p (flat_map (orders.of_request p after) ws) (flat_map (orders.of_wait p after) ws) (each p (orders.of_request p after) ws (acted_passes after)) (each p (orders.of_wait p after) ws (wait_passes after))

  acting_passes : (o : Option ℕ) → ArePassesAt p (orders.of_acting p o)
  acting_passes None = tt
  acting_passes (Some t) = (is_acquisition t (lock.Request t) p, tt)

  pub between_passes : (b : Before) (after : Tables) → ArePassesAt p (orders.between p b after)
  between_passes b after =
      both p (orders.of_caller p b.caller b.is_writer b.waits.items after) (orders.of_acting p b.acting ++ orders.of_waits p b.waits.items after)
      (caller_passes b.caller b.is_writer b.waits.items after)
      (both p (orders.of_acting p b.acting) (orders.of_waits p b.waits.items after) (acting_passes b.acting) (waits_pass b.waits.items after))
