-- A call that is refused leaves the tables as they were.
use Rattle.std.proofs.Common.{◌≡◌, ◌==◌, ◌+◌, ◌%◌, ◌||◌, ◌&&◌, not, ℕ, nat_le, nat_lt, Bool, true, false, List, [], ◌∷◌, length, Option, Some, None, take, refl, sym, ap, subst, ◌∙◌}
use Rattle.ckrt_registers.specs.Registers.{Registers, get}
use Rattle.ckrt_thread.specs.declared.records.CallResult.{CallResult}
use Rattle.ckrt_thread.specs.declared.records.CallResult.TheVariants.{Done}
use Rattle.ckrt_thread.specs.declared.records.Handler.{Handler}
use Rattle.ckrt_thread.specs.declared.records.Reason.{Reason}
use Rattle.ckrt_thread.specs.declared.records.Reason.TheVariants as reason
use Rattle.ckrt_thread.specs.declared.records.RetakeResult.TheVariants as retake
use Rattle.ckrt_thread.specs.declared.records.Thread.{Thread}
use Rattle.ckrt_thread.specs.declared.records.Thread.TheVariants as thread
use Rattle.ckrt_thread.specs.declared.records.Wait.{Wait}
use Rattle.ckrt_thread.specs.Cancellation.{MAX_HANDLERS, handlers_of}
use Rattle.ckrt_thread.specs.Keys.{free_key}
use Rattle.ckrt_thread.specs.Rows as rows
use Rattle.ckrt_thread.specs.State as threads
use Rattle.ckrt_thread.specs.State.{thread_of}
use Rattle.ckrt_thread.specs.Unwinding.{newest_handler}
use Rattle.ckrt_thread.specs.Waits.{is_moment}
use Rattle.ckrt_objects.specs.declared.address_map.Entry.{Entry}
use Rattle.ckrt_objects.specs.AddressMap.{has_entry, lookup}
use Rattle.ckrt_mutex.specs.declared.records.Kind.{Kind}
use Rattle.ckrt_mutex.specs.declared.records.Mutex.{Mutex}
use Rattle.ckrt_mutex.specs.Mutex.{is_available, is_normal, is_owner, mutex_at}
use Rattle.ckrt_mutex.specs.Rows as mutex
use Rattle.ckrt_cond.specs.Rows as condition
use Rattle.ckrt_barrier.specs.declared.barrier.Barrier.{Barrier}
use Rattle.ckrt_barrier.specs.Rows as barrier
use Rattle.ckrt_rwlock.specs.declared.records.RwLock.{RwLock}
use Rattle.ckrt_rwlock.specs.RwLock.{is_held, is_holder, is_reader, is_writer, is_written, lock_at, read_count}
use Rattle.ckrt_rwlock.specs.Rows as rwlock
use Rattle.ckrt_cancel.specs.Rows as cancel
use Rattle.ckrt_cancel.specs.KeyRows as keys
use Rattle.ckrt_calls.specs.declared.table.Tables.{Tables}
use Rattle.ckrt_calls.specs.declared.number.Call.{Call}
use Rattle.ckrt_calls.specs.declared.number.Call.TheVariants as call
use Rattle.ckrt_calls.specs.declared.number.ProcessCall.{ProcessCall}
use Rattle.ckrt_calls.specs.declared.number.ProcessCall.TheVariants as process_call
use Rattle.ckrt_calls.specs.declared.number.ThreadCall.{ThreadCall}
use Rattle.ckrt_calls.specs.declared.number.ThreadCall.TheVariants as thread_call
use Rattle.ckrt_calls.specs.declared.number.MutexCall.{MutexCall}
use Rattle.ckrt_calls.specs.declared.number.MutexCall.TheVariants as mutex_call
use Rattle.ckrt_calls.specs.declared.number.ConditionCall.{ConditionCall}
use Rattle.ckrt_calls.specs.declared.number.ConditionCall.TheVariants as condition_call
use Rattle.ckrt_calls.specs.declared.number.BarrierCall.{BarrierCall}
use Rattle.ckrt_calls.specs.declared.number.BarrierCall.TheVariants as barrier_call
use Rattle.ckrt_calls.specs.declared.number.RwLockCall.{RwLockCall}
use Rattle.ckrt_calls.specs.declared.number.RwLockCall.TheVariants as rwlock_call
use Rattle.ckrt_calls.specs.declared.number.CancellationCall.{CancellationCall}
use Rattle.ckrt_calls.specs.declared.number.CancellationCall.TheVariants as cancellation_call
use Rattle.ckrt_calls.specs.declared.number.KeyCall.{KeyCall}
use Rattle.ckrt_calls.specs.declared.number.KeyCall.TheVariants as key_call
use Rattle.ckrt_calls.specs.Refused.{is_refused, RefusedChangesNothing}
use Rattle.ckrt_calls.specs.Table as calls
use Rattle.ckrt_calls.proofs.Choices.{choice}

-- what a refused call leaves
record IsUnchanged (c : Call) (s : Tables) (x : calls.After) : Type 0 where
  pub holds : is_refused (Some c) x.result ≡ true → x.tables ≡ s

-- a call that wasn't refused
not_refused : (c : Call) (s : Tables) (x : calls.After) → is_refused (Some c) x.result ≡ false → IsUnchanged c s x
not_refused c s x n = record { holds = λ h. absurd (cc) }

-- a call that changed nothing
same : (c : Call) (s : Tables) (x : calls.After) → x.tables ≡ s → IsUnchanged c s x
same c s x e = record { holds = λ h. e }

-- THREADS

record OfThreads (c : Call) (s : Tables) (x : rows.After) : Type 0 where
  pub holds : IsUnchanged c s (calls.by_threads s x)

unless : (c : Call) (s : Tables) (x : rows.After) → is_refused (Some c) x.result ≡ false → OfThreads c s x
unless c s x n = record { holds = not_refused c s (calls.by_threads s x) n }

refusal : (c : Call) (s : Tables) (e : ℕ) → OfThreads c s (rows.unchanged (Done e) s.threads)
refusal c s e = record { holds = same c s (calls.by_threads s (rows.unchanged (Done e) s.threads)) refl }

created : (o : Option ℕ) (t start arg sp : ℕ) (d : Bool) (s : Tables) → OfThreads (call.Thread thread_call.Create) s (rows.create_at o t start arg sp d s.threads)
created None t start arg sp d s = refusal _ s _
created (Some i) t start arg sp d s = unless _ s _ refl

of_create : (t start arg sp d : ℕ) (s : Tables) → OfThreads (call.Thread thread_call.Create) s (rows.create_row t start arg sp d s.threads)
of_create t start arg sp d s = choice (OfThreads (call.Thread thread_call.Create) s) _ _ _ (refusal _ s _) (created _ t start arg sp _ s)

joined : (o : Option Thread) (t id : ℕ) (s : Tables) → OfThreads (call.Thread thread_call.Join) s (rows.join_at o t id s.threads)
joined None t id s = refusal _ s _
joined (Some (thread.Ended v)) t id s = unless _ s _ refl
joined (Some (thread.Live l)) t id s = choice (OfThreads (call.Thread thread_call.Join) s) (l.detached || threads.is_joined id s.threads) _ _ (refusal _ s _) (unless _ s _ refl)

of_join : (t id : ℕ) (s : Tables) → OfThreads (call.Thread thread_call.Join) s (rows.join_row t id s.threads)
of_join t id s = choice (OfThreads (call.Thread thread_call.Join) s) _ _ _ (refusal _ s _) (joined _ t id s)

of_detach : (o : Option Thread) (id : ℕ) (s : Tables) → OfThreads (call.Thread thread_call.Detach) s (rows.detach_at o id s.threads)
of_detach None id s = refusal _ s _
of_detach (Some (thread.Ended v)) id s = unless _ s _ refl
of_detach (Some (thread.Live l)) id s = choice (OfThreads (call.Thread thread_call.Detach) s) (l.detached || threads.is_joined id s.threads) _ _ (refusal _ s _) (unless _ s _ refl)

of_thread : (c : ThreadCall) (t : ℕ) (r : Registers) (s : Tables) → IsUnchanged (call.Thread c) s (calls.thread_row c t r s)
of_thread thread_call.Create t r s = (of_create t (get r 10) (get r 11) (get r 12) (get r 13) s).holds
of_thread thread_call.Join t r s = (of_join t (get r 10) s).holds
of_thread thread_call.Detach t r s = (of_detach (thread_of s.threads (get r 10)) (get r 10) s).holds
of_thread thread_call.Exit t r s = not_refused _ s _ refl
of_thread thread_call.SelfId t r s = not_refused _ s _ refl

-- MUTEXES AND CONDITIONS

record OfMutexes (c : Call) (s : Tables) (x : mutex.After) : Type 0 where
  pub holds : IsUnchanged c s (calls.by_mutexes s x)

unless_mutex : (c : Call) (s : Tables) (x : mutex.After) → is_refused (Some c) x.result ≡ false → OfMutexes c s x
unless_mutex c s x n = record { holds = not_refused c s (calls.by_mutexes s x) n }

mutex_refusal : (c : Call) (s : Tables) (e : ℕ) → OfMutexes c s (mutex.unchanged (Done e) s.threads s.mutexes)
mutex_refusal c s e = record { holds = same c s (calls.by_mutexes s (mutex.unchanged (Done e) s.threads s.mutexes)) refl }

initialised : (k : Option Kind) (a : ℕ) (s : Tables) → OfMutexes (call.Mutex mutex_call.Init) s (mutex.init_kind k a s.threads s.mutexes)
initialised None a s = mutex_refusal _ s _
initialised (Some k) a s =
    choice (OfMutexes (call.Mutex mutex_call.Init) s) (mutex.is_busy a s.threads s.mutexes) _ _ (mutex_refusal _ s _)
    (choice (OfMutexes (call.Mutex mutex_call.Init) s) (not (is_normal k) && mutex.is_full a s.threads s.mutexes) _ _ (mutex_refusal _ s _) (unless_mutex _ s _ refl))

of_destroy : (a : ℕ) (s : Tables) → OfMutexes (call.Mutex mutex_call.Destroy) s (mutex.destroy_row a s.threads s.mutexes)
of_destroy a s = choice (OfMutexes (call.Mutex mutex_call.Destroy) s) (mutex.is_busy a s.threads s.mutexes) _ _ (mutex_refusal _ s _) (unless_mutex _ s _ refl)

-- 0 is no refusal of the call
abbrev MayAnswer0 : Call → Type 0
MayAnswer0 c = is_refused (Some c) (Done 0) ≡ false

taken : (c : Call) → MayAnswer0 c → (m : Mutex) (t a : ℕ) (s : Tables) → OfMutexes c s (mutex.taken m t a s.threads s.mutexes)
taken c ok m t a s = choice (OfMutexes c s) (nat_le 65535 m.count || mutex.is_full a s.threads s.mutexes) _ _ (mutex_refusal c s _) (unless_mutex c s _ ok)

taken_or : (c : Call) → MayAnswer0 c → (wait : mutex.After) (m : Mutex) (t a : ℕ) (s : Tables) → OfMutexes c s wait → OfMutexes c s (mutex.taken_or wait m t a s.threads s.mutexes)
taken_or c ok wait m t a s w = choice (OfMutexes c s) _ _ _ (taken c ok m t a s) (choice (OfMutexes c s) _ _ _ (mutex_refusal c s _) w)

waits_until : (t a moment : ℕ) (s : Tables) → OfMutexes (call.Mutex mutex_call.TimedLock) s (mutex.waiting_until t a moment s.clock s.threads s.mutexes)
waits_until t a moment s =
    choice (OfMutexes (call.Mutex mutex_call.TimedLock) s) (not (is_moment moment)) _ _ (mutex_refusal _ s _)
    (choice (OfMutexes (call.Mutex mutex_call.TimedLock) s) (nat_le moment s.clock) _ _ (mutex_refusal _ s _) (unless_mutex _ s _ refl))

of_trylock : (m : Mutex) (t a : ℕ) (s : Tables) → OfMutexes (call.Mutex mutex_call.TryLock) s (mutex.trylock_of m t a s.threads s.mutexes)
of_trylock m t a s = choice (OfMutexes (call.Mutex mutex_call.TryLock) s) _ _ _ (taken _ refl m t a s) (mutex_refusal _ s _)

of_unlock : (m : Mutex) (t a : ℕ) (s : Tables) → OfMutexes (call.Mutex mutex_call.Unlock) s (mutex.unlock_of m t a s.threads s.mutexes)
of_unlock m t a s =
    choice (OfMutexes (call.Mutex mutex_call.Unlock) s) (not (is_owner t m)) _ _ (mutex_refusal _ s _)
    (choice (OfMutexes (call.Mutex mutex_call.Unlock) s) (nat_lt 1 m.count) _ _ (unless_mutex _ s _ refl) (unless_mutex _ s _ refl))

of_mutex : (c : MutexCall) (t : ℕ) (r : Registers) (s : Tables) → IsUnchanged (call.Mutex c) s (calls.mutex_row c t r s)
of_mutex mutex_call.Init t r s = (initialised (mutex.kind_of (get r 11)) (get r 10) s).holds
of_mutex mutex_call.Destroy t r s = (of_destroy (get r 10) s).holds
of_mutex mutex_call.Lock t r s =
    (taken_or (call.Mutex mutex_call.Lock) refl (mutex.waiting t (get r 10) None s.threads s.mutexes) (mutex_at (get r 10) s.mutexes) t (get r 10) s (unless_mutex _ s _ refl)).holds
of_mutex mutex_call.TryLock t r s = (of_trylock (mutex_at (get r 10) s.mutexes) t (get r 10) s).holds
of_mutex mutex_call.TimedLock t r s =
    let wait = waits_until t (get r 10) (calls.moment_of (get r 11) (get r 12)) s in
    (taken_or (call.Mutex mutex_call.TimedLock) refl _ (mutex_at (get r 10) s.mutexes) t (get r 10) s wait).holds
of_mutex mutex_call.Unlock t r s = (of_unlock (mutex_at (get r 10) s.mutexes) t (get r 10) s).holds

unused : (c : Call) (k : ℕ) (s : Tables) → OfMutexes c s (condition.init_row k s.threads s.mutexes)
unused c k s = choice (OfMutexes c s) _ _ _ (mutex_refusal c s _) (mutex_refusal c s _)

waits_at : (c : Call) (o : Option ℕ) (t k a : ℕ) (d : Option ℕ) (s : Tables) → OfMutexes c s (condition.released_then (condition.waiting_at t k a d) o t a s.threads s.mutexes)
waits_at c None t k a d s = unless_mutex c s _ refl
waits_at c (Some e) t k a d s = mutex_refusal c s e

retaken : (m : Mutex) (t a : ℕ) (z : threads.State) (ms : List (Entry Mutex)) (s : Tables)
    → OfMutexes (call.Condition condition_call.TimedWait) s (mutex.retake_of m t a retake.TimedOut z ms)
retaken m t a z ms s = choice (OfMutexes (call.Condition condition_call.TimedWait) s) (is_available t m) _ _ (unless_mutex _ s _ refl) (unless_mutex _ s _ refl)

retakes : (o : Option ℕ) (t a : ℕ) (s : Tables)
    → OfMutexes (call.Condition condition_call.TimedWait) s (condition.released_then (mutex.retake_row t a retake.TimedOut) o t a s.threads s.mutexes)
retakes None t a s = retaken _ t a _ _ s
retakes (Some e) t a s = mutex_refusal _ s e

of_timedwait : (t k a d : ℕ) (s : Tables) → OfMutexes (call.Condition condition_call.TimedWait) s (condition.timedwait_row t k a d s.clock s.threads s.mutexes)
of_timedwait t k a d s =
    let refusal = condition.wait_refusal t k a s.threads s.mutexes in
    choice (OfMutexes (call.Condition condition_call.TimedWait) s) (not (is_moment d)) _ _ (mutex_refusal _ s _)
    (choice (OfMutexes (call.Condition condition_call.TimedWait) s) (nat_le d s.clock) _ _ (retakes refusal t a s) (waits_at _ refusal t k a (Some d) s))

-- a signal answers 0
answers_0 : (ws : List Wait) (z : threads.State) (ms : List (Entry Mutex)) → (condition.all_woken ws z ms).result ≡ Done 0
answers_0 [] z ms = refl
answers_0 (w ∷ ws) z ms = answers_0 ws _ _

signals : (c : Call) → MayAnswer0 c → (ws : List Wait) (s : Tables) → OfMutexes c s (condition.all_woken ws s.threads s.mutexes)
signals c ok ws s = unless_mutex c s _ (ap (λ x. is_refused (Some c) x) (answers_0 ws s.threads s.mutexes) ∙ ok)

of_condition : (c : ConditionCall) (t : ℕ) (r : Registers) (s : Tables) → IsUnchanged (call.Condition c) s (calls.condition_row c t r s)
of_condition condition_call.Init t r s = (unused _ (get r 10) s).holds
of_condition condition_call.Destroy t r s = (unused _ (get r 10) s).holds
of_condition condition_call.Wait t r s =
    (waits_at _ (condition.wait_refusal t (get r 10) (get r 11) s.threads s.mutexes) t (get r 10) (get r 11) None s).holds
of_condition condition_call.TimedWait t r s = (of_timedwait t (get r 10) (get r 11) (calls.moment_of (get r 12) (get r 13)) s).holds
of_condition condition_call.Signal t r s = (signals (call.Condition condition_call.Signal) refl (take 1 (condition.waiters (get r 10) s.threads)) s).holds
of_condition condition_call.Broadcast t r s = (signals (call.Condition condition_call.Broadcast) refl (condition.waiters (get r 10) s.threads) s).holds

-- BARRIERS

record OfBarriers (c : Call) (s : Tables) (x : barrier.After) : Type 0 where
  pub holds : IsUnchanged c s (calls.by_barriers s x)

unless_barrier : (c : Call) (s : Tables) (x : barrier.After) → is_refused (Some c) x.result ≡ false → OfBarriers c s x
unless_barrier c s x n = record { holds = not_refused c s (calls.by_barriers s x) n }

barrier_refusal : (c : Call) (s : Tables) (e : ℕ) → OfBarriers c s (barrier.unchanged (Done e) s.threads s.barriers)
barrier_refusal c s e = record { holds = same c s (calls.by_barriers s (barrier.unchanged (Done e) s.threads s.barriers)) refl }

set_up : (b count : ℕ) (s : Tables) → OfBarriers (call.Barrier barrier_call.Init) s (barrier.init_row b count s.threads s.barriers)
set_up b count s =
    choice (OfBarriers (call.Barrier barrier_call.Init) s) (barrier.has_waiters b s.threads) _ _ (barrier_refusal _ s _)
    (choice (OfBarriers (call.Barrier barrier_call.Init) s) (count == 0) _ _ (barrier_refusal _ s _)
    (choice (OfBarriers (call.Barrier barrier_call.Init) s) (barrier.is_full b s.barriers) _ _ (barrier_refusal _ s _) (unless_barrier _ s _ refl)))

taken_down : (b : ℕ) (s : Tables) → OfBarriers (call.Barrier barrier_call.Destroy) s (barrier.destroy_row b s.threads s.barriers)
taken_down b s =
    choice (OfBarriers (call.Barrier barrier_call.Destroy) s) (barrier.has_waiters b s.threads) _ _ (barrier_refusal _ s _)
    (choice (OfBarriers (call.Barrier barrier_call.Destroy) s) (not (has_entry b s.barriers)) _ _ (barrier_refusal _ s _) (unless_barrier _ s _ refl))

awaits : (o : Option Barrier) (t b : ℕ) (s : Tables) → OfBarriers (call.Barrier barrier_call.Wait) s (barrier.wait_at o t b s.threads s.barriers)
awaits None t b s = barrier_refusal _ s _
awaits (Some x) t b s = choice (OfBarriers (call.Barrier barrier_call.Wait) s) (length (barrier.waiters b s.threads) + 1 == x.count) _ _ (unless_barrier _ s _ refl) (unless_barrier _ s _ refl)

of_barrier : (c : BarrierCall) (t : ℕ) (r : Registers) (s : Tables) → IsUnchanged (call.Barrier c) s (calls.barrier_row c t r s)
of_barrier barrier_call.Init t r s = (set_up (get r 10) (get r 11) s).holds
of_barrier barrier_call.Destroy t r s = (taken_down (get r 10) s).holds
of_barrier barrier_call.Wait t r s = (awaits (lookup (get r 10) s.barriers) t (get r 10) s).holds

-- READ-WRITE LOCKS

record OfLocks (c : Call) (s : Tables) (x : rwlock.After) : Type 0 where
  pub holds : IsUnchanged c s (calls.by_rwlocks s x)

unless_lock : (c : Call) (s : Tables) (x : rwlock.After) → is_refused (Some c) x.result ≡ false → OfLocks c s x
unless_lock c s x n = record { holds = not_refused c s (calls.by_rwlocks s x) n }

lock_refusal : (c : Call) (s : Tables) (e : CallResult) → OfLocks c s (rwlock.unchanged e s.threads s.rwlocks)
lock_refusal c s e = record { holds = same c s (calls.by_rwlocks s (rwlock.unchanged e s.threads s.rwlocks)) refl }

reads_again : (c : Call) → MayAnswer0 c → (l : RwLock) (t a : ℕ) (s : Tables) → OfLocks c s (rwlock.reading_again l t a s.threads s.rwlocks)
reads_again c ok l t a s = choice (OfLocks c s) (nat_le 65535 (read_count t l)) _ _ (lock_refusal c s _) (unless_lock c s _ ok)

reads : (c : Call) → MayAnswer0 c → (l : RwLock) (t a : ℕ) (s : Tables) → OfLocks c s (rwlock.rdlock_of l t a s.threads s.rwlocks)
reads c ok l t a s =
    choice (OfLocks c s) (is_writer t l) _ _ (lock_refusal c s _)
    (choice (OfLocks c s) (is_reader t l) _ _ (reads_again c ok l t a s)
    (choice (OfLocks c s) (rwlock.is_full a s.threads s.rwlocks) _ _ (lock_refusal c s _)
    (choice (OfLocks c s) (is_written l || rwlock.is_awaited a s.threads) _ _ (unless_lock c s _ refl) (unless_lock c s _ ok))))

writes : (c : Call) → MayAnswer0 c → (l : RwLock) (t a : ℕ) (s : Tables) → OfLocks c s (rwlock.wrlock_of l t a s.threads s.rwlocks)
writes c ok l t a s =
    choice (OfLocks c s) (is_holder t l) _ _ (lock_refusal c s _)
    (choice (OfLocks c s) (rwlock.is_full a s.threads s.rwlocks) _ _ (lock_refusal c s _)
    (choice (OfLocks c s) (is_held l) _ _ (unless_lock c s _ refl) (unless_lock c s _ ok)))

or_busy : (c : Call) (x : rwlock.After) (s : Tables) → OfLocks c s x → OfLocks c s (rwlock.or_busy x s.threads s.rwlocks)
or_busy c x s p = choice (OfLocks c s) (rwlock.is_0_or_again x.result) _ _ p (lock_refusal c s _)

given_up : (l : RwLock) (t a : ℕ) (s : Tables) → OfLocks (call.RwLock rwlock_call.Unlock) s (rwlock.unlock_of l t a s.threads s.rwlocks)
given_up l t a s = choice (OfLocks (call.RwLock rwlock_call.Unlock) s) (not (is_holder t l)) _ _ (lock_refusal _ s _) (unless_lock _ s _ refl)

of_rwlock : (c : RwLockCall) (t : ℕ) (r : Registers) (s : Tables) → IsUnchanged (call.RwLock c) s (calls.rwlock_row c t r s)
of_rwlock rwlock_call.Init t r s = same _ s _ refl
of_rwlock rwlock_call.Destroy t r s = same _ s _ refl
of_rwlock rwlock_call.RdLock t r s = (reads (call.RwLock rwlock_call.RdLock) refl (lock_at (get r 10) s.rwlocks) t (get r 10) s).holds
of_rwlock rwlock_call.TryRdLock t r s = (or_busy _ _ s (reads (call.RwLock rwlock_call.TryRdLock) refl (lock_at (get r 10) s.rwlocks) t (get r 10) s)).holds
of_rwlock rwlock_call.WrLock t r s = (writes (call.RwLock rwlock_call.WrLock) refl (lock_at (get r 10) s.rwlocks) t (get r 10) s).holds
of_rwlock rwlock_call.TryWrLock t r s = (or_busy _ _ s (writes (call.RwLock rwlock_call.TryWrLock) refl (lock_at (get r 10) s.rwlocks) t (get r 10) s)).holds
of_rwlock rwlock_call.Unlock t r s = (given_up (lock_at (get r 10) s.rwlocks) t (get r 10) s).holds

-- CANCELLATION

interrupts : (w : Reason) (t : ℕ) (s : Tables) → OfMutexes (call.Cancellation cancellation_call.Cancel) s (cancel.request_while w t s.threads s.mutexes)
interrupts reason.Input t s = unless_mutex _ s _ refl
interrupts reason.Sleep t s = unless_mutex _ s _ refl
interrupts (reason.Join q) t s = unless_mutex _ s _ refl
interrupts (reason.Condition c a) t s = unless_mutex _ s _ refl
interrupts (reason.Lock a) t s = unless_mutex _ s _ refl
interrupts (reason.Retake a r) t s = unless_mutex _ s _ refl
interrupts (reason.Barrier b) t s = unless_mutex _ s _ refl
interrupts (reason.Read l) t s = unless_mutex _ s _ refl
interrupts (reason.Write l) t s = unless_mutex _ s _ refl

requests_in : (w : Option Wait) (t : ℕ) (s : Tables) → OfMutexes (call.Cancellation cancellation_call.Cancel) s (cancel.request_in w t s.threads s.mutexes)
requests_in None t s = unless_mutex _ s _ refl
requests_in (Some w) t s = interrupts w.reason t s

requests_live : (e : Bool) (t : ℕ) (s : Tables) → OfMutexes (call.Cancellation cancellation_call.Cancel) s (cancel.request_live e t s.threads s.mutexes)
requests_live e t s = choice (OfMutexes (call.Cancellation cancellation_call.Cancel) s) e _ _ (requests_in _ t s) (unless_mutex _ s _ refl)

requests : (o : Option Thread) (id : ℕ) (s : Tables) → OfMutexes (call.Cancellation cancellation_call.Cancel) s (cancel.request_for o id s.threads s.mutexes)
requests None id s = mutex_refusal _ s _
requests (Some (thread.Ended v)) id s = mutex_refusal _ s _
requests (Some (thread.Live l)) id s = requests_live l.cancellation.is_enabled id s

sets_state : (t n : ℕ) (s : Tables) → OfThreads (call.Cancellation cancellation_call.SetCancelState) s (cancel.set_state_row t n s.threads)
sets_state t n s = choice (OfThreads (call.Cancellation cancellation_call.SetCancelState) s) (nat_lt 1 n) _ _ (refusal _ s _) (unless _ s _ refl)

sets_type : (t n : ℕ) (s : Tables) → OfThreads (call.Cancellation cancellation_call.SetCancelType) s (cancel.set_type_row t n s.threads)
sets_type t n s = choice (OfThreads (call.Cancellation cancellation_call.SetCancelType) s) (nat_lt 1 n) _ _ (refusal _ s _) (unless _ s _ refl)

pushes : (t routine argument : ℕ) (s : Tables) → OfThreads (call.Cancellation cancellation_call.CleanupPush) s (cancel.push_row t routine argument s.threads)
pushes t routine argument s =
    choice (OfThreads (call.Cancellation cancellation_call.CleanupPush) s) (not (routine % 4 == 0)) _ _ (refusal _ s _)
    (choice (OfThreads (call.Cancellation cancellation_call.CleanupPush) s) (nat_le MAX_HANDLERS (length (handlers_of (thread_of s.threads t)))) _ _ (refusal _ s _) (unless _ s _ refl))

pops : (o : Option Handler) (t execute back : ℕ) (s : Tables) → OfThreads (call.Cancellation cancellation_call.CleanupPop) s (cancel.pop_of o t execute back s.threads)
pops None t execute back s = refusal _ s _
pops (Some x) t execute back s = choice (OfThreads (call.Cancellation cancellation_call.CleanupPop) s) (execute == 0) _ _ (unless _ s _ refl) (unless _ s _ refl)

of_cancellation : (c : CancellationCall) (t : ℕ) (r : Registers) (s : Tables) → IsUnchanged (call.Cancellation c) s (calls.cancellation_row c t r s)
of_cancellation cancellation_call.Cancel t r s = (requests (thread_of s.threads (get r 10)) (get r 10) s).holds
of_cancellation cancellation_call.TestCancel t r s = same _ s _ refl
of_cancellation cancellation_call.SetCancelState t r s = (sets_state t (get r 10) s).holds
of_cancellation cancellation_call.SetCancelType t r s = (sets_type t (get r 10) s).holds
of_cancellation cancellation_call.CleanupPush t r s = (pushes t (get r 10) (get r 11) s).holds
of_cancellation cancellation_call.CleanupPop t r s = (pops (newest_handler t s.threads) t (get r 10) r.pc s).holds

-- KEYS

if_on : (c : Call) (x : rows.After) (s : Tables) → OfThreads c s x → OfThreads c s (keys.if_on s.threads x)
if_on c x s p = choice (OfThreads c s) _ _ _ p (refusal c s _)

if_key : (c : Call) (k : ℕ) (x : rows.After) (s : Tables) → OfThreads c s x → OfThreads c s (keys.if_key k s.threads x)
if_key c k x s p = choice (OfThreads c s) _ _ _ p (refusal c s _)

key_created : (o : Option ℕ) (t d : ℕ) (s : Tables) → OfThreads (call.Key key_call.Create) s (keys.key_created o t d s.threads)
key_created None t d s = refusal _ s _
key_created (Some k) t d s = unless _ s _ refl

creates_key : (t d : ℕ) (s : Tables) → OfThreads (call.Key key_call.Create) s (keys.key_create_row t d s.threads)
creates_key t d s = if_on _ _ s (choice (OfThreads (call.Key key_call.Create) s) _ _ _ (refusal _ s _) (key_created (free_key s.threads.keys) t d s))

deletes_key : (k : ℕ) (s : Tables) → OfThreads (call.Key key_call.Delete) s (keys.key_delete_row k s.threads)
deletes_key k s = if_on _ _ s (if_key _ k _ s (unless _ s _ refl))

sets_value : (t k v : ℕ) (s : Tables) → OfThreads (call.Key key_call.SetSpecific) s (keys.setspecific_row t k v s.threads)
sets_value t k v s = if_on _ _ s (if_key _ k _ s (unless _ s _ refl))

gets_value : (t k : ℕ) (s : Tables) → OfThreads (call.Key key_call.GetSpecific) s (keys.getspecific_row t k s.threads)
gets_value t k s = if_on _ _ s (if_key _ k _ s (unless _ s _ refl))

of_key : (c : KeyCall) (t : ℕ) (r : Registers) (s : Tables) → IsUnchanged (call.Key c) s (calls.key_row c t r s)
of_key key_call.Create t r s = (creates_key t (get r 10) s).holds
of_key key_call.Delete t r s = (deletes_key (get r 10) s).holds
of_key key_call.SetSpecific t r s = (sets_value t (get r 10) (get r 11) s).holds
of_key key_call.GetSpecific t r s = (gets_value t (get r 10) s).holds

-- THE PROCESS

gets : (bytes : List ℕ) (t : ℕ) (s : Tables) → IsUnchanged (call.Process process_call.Getc) s (calls.getc_of bytes t s)
gets [] t s = choice (IsUnchanged (call.Process process_call.Getc) s) s.closed _ _ (not_refused _ s _ refl) (not_refused _ s _ refl)
gets (b ∷ bs) t s = not_refused _ s _ refl

sleeps : (t moment : ℕ) (s : Tables) → IsUnchanged (call.Process process_call.SleepUntil) s (calls.sleep_row t moment s)
sleeps t moment s =
    choice (IsUnchanged (call.Process process_call.SleepUntil) s) (not (is_moment moment)) _ _ (same _ s _ refl)
    (choice (IsUnchanged (call.Process process_call.SleepUntil) s) (nat_le moment s.clock) _ _ (same _ s _ refl) (not_refused _ s _ refl))

of_process : (c : ProcessCall) (t : ℕ) (r : Registers) (s : Tables) → IsUnchanged (call.Process c) s (calls.process_row c t r s)
of_process process_call.Exit t r s = not_refused _ s _ refl
of_process process_call.Putc t r s = same _ s _ refl
of_process process_call.Getc t r s = gets s.input t s
of_process process_call.Clock t r s = not_refused _ s _ refl
of_process process_call.SleepUntil t r s = sleeps t (calls.moment_of (get r 10) (get r 11)) s

-- ALL CALLS

of_row : (c : Call) (t : ℕ) (r : Registers) (s : Tables) → IsUnchanged c s (calls.row c t r s)
of_row (call.Process c) t r s = of_process c t r s
of_row (call.Thread c) t r s = of_thread c t r s
of_row (call.Mutex c) t r s = of_mutex c t r s
of_row (call.Condition c) t r s = of_condition c t r s
of_row (call.Barrier c) t r s = of_barrier c t r s
of_row (call.RwLock c) t r s = of_rwlock c t r s
of_row (call.Cancellation c) t r s = of_cancellation c t r s
of_row (call.Key c) t r s = of_key c t r s

-- at a cancellation point a thread may act on a request in place of the call
of_point : (c : Call) (t : ℕ) (r : Registers) (s : Tables) → IsUnchanged c s (calls.row_or_point c t r s)
of_point c t r s = choice (IsUnchanged c s) (calls.acts_at c t s) _ _ (not_refused c s _ refl) (of_row c t r s)

of_number : (o : Option Call) (t : ℕ) (r : Registers) (s : Tables) → is_refused o (calls.row_or_unknown o t r s).result ≡ true → (calls.row_or_unknown o t r s).tables ≡ s
of_number None t r s = λ h. refl
of_number (Some c) t r s = (of_point c t r s).holds

-- the call that stands in the registers of a thread
pub refused_changes_nothing : RefusedChangesNothing
refused_changes_nothing t r s e =
    subst (λ o. is_refused (calls.call_of (get r 17)) (calls.called_with o t s).result ≡ true → (calls.called_with o t s).tables ≡ s) (sym e) (of_number (calls.call_of (get r 17)) t r s)
