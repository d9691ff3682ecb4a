-- No event changes how many harts there are, nor whether the program may have keys.
use Rattle.std.proofs.Common.{◌≡◌, ◌==◌, ◌-◌, ◌+◌, ◌%◌, ℕ, zero, suc, Bool, true, false, not, ◌||◌, cond, List, [], ◌∷◌, ◌++◌, take, Option, Some, None, is_some, refl, ap, ◌∙◌}
use Rattle.ckrt_registers.specs.Registers.{Registers, get}
use Rattle.ckrt_rv32i.specs.Effect.{instruction_step}
use Rattle.ckrt_rv32i.specs.declared.execution.Outcome.{Outcome}
use Rattle.ckrt_rv32i.specs.declared.execution.Outcome.TheVariants as outcome
use Rattle.ckrt_thread.specs.declared.records.CallResult.{CallResult}
use Rattle.ckrt_thread.specs.declared.records.CallResult.TheVariants as result
use Rattle.ckrt_thread.specs.declared.records.Handler.{Handler}
use Rattle.ckrt_thread.specs.declared.keys.Turn.{Turn}
use Rattle.ckrt_thread.specs.Keys.{is_key, free_key}
use Rattle.ckrt_thread.specs.ThreadKeys.{value_of, with_value_of, without_key_of}
use Rattle.ckrt_thread.specs.declared.records.Thread.{Thread}
use Rattle.ckrt_thread.specs.declared.records.Thread.TheVariants as thread
use Rattle.ckrt_thread.specs.declared.records.Live.{Live}
use Rattle.ckrt_thread.specs.declared.records.Wait.{Wait}
use Rattle.ckrt_thread.specs.declared.records.Reason.{Reason}
use Rattle.ckrt_thread.specs.declared.records.Reason.TheVariants as reason
use Rattle.ckrt_thread.specs.declared.records.RetakeResult.{RetakeResult}
use Rattle.ckrt_thread.specs.declared.records.RetakeResult.TheVariants as retake
use Rattle.ckrt_thread.specs.declared.records.Object.TheVariants as object
use Rattle.ckrt_thread.specs.Abi.{A0, A1}
use Rattle.ckrt_thread.specs.Deadlines.{due_waits}
use Rattle.ckrt_thread.specs.Errors.{EAGAIN, EBUSY, EDEADLK, EINVAL, ENOSYS, EPERM, ETIMEDOUT}
use Rattle.ckrt_thread.specs.Granting.{GrantRule, answered, grant, grant_up_to, obtained, queue_of, wait_result}
use Rattle.ckrt_thread.specs.Rows as rows
use Rattle.ckrt_thread.specs.State as threads
use Rattle.ckrt_thread.specs.Unwinding as unwinding
use Rattle.ckrt_thread.specs.Waits.{retake_code}
use Rattle.ckrt_objects.specs.declared.address_map.Entry.{Entry}
use Rattle.ckrt_mutex.specs.declared.records.Kind.{Kind}
use Rattle.ckrt_mutex.specs.declared.records.Mutex.{Mutex}
use Rattle.ckrt_mutex.specs.Mutex.{free, mutex_at, owned, put}
use Rattle.ckrt_mutex.specs.Rows as mutex
use Rattle.ckrt_rwlock.specs.declared.records.RwLock.{RwLock}
use Rattle.ckrt_rwlock.specs.RwLock.{given_up, is_written, lock_at, with_writer}
use Rattle.ckrt_rwlock.specs.Rows as rwlock
use Rattle.ckrt_barrier.specs.declared.barrier.Barrier.{Barrier}
use Rattle.ckrt_barrier.specs.Rows as barrier
use Rattle.ckrt_objects.specs.AddressMap.{lookup, removed, stored}
use Rattle.ckrt_cond.specs.Rows as condition
use Rattle.ckrt_cancel.specs.Rows as cancel
use Rattle.ckrt_cancel.specs.KeyRows as keys
use Rattle.ckrt_calls.specs.declared.table.Tables.{Tables}
use Rattle.ckrt_calls.specs.declared.number.Call.{Call}
use Rattle.ckrt_calls.specs.declared.number.Call.TheVariants as call
use Rattle.ckrt_calls.specs.declared.number.ProcessCall.{ProcessCall}
use Rattle.ckrt_calls.specs.declared.number.ProcessCall.TheVariants as process_call
use Rattle.ckrt_calls.specs.declared.number.ThreadCall.{ThreadCall}
use Rattle.ckrt_calls.specs.declared.number.ThreadCall.TheVariants as thread_call
use Rattle.ckrt_calls.specs.declared.number.MutexCall.{MutexCall}
use Rattle.ckrt_calls.specs.declared.number.MutexCall.TheVariants as mutex_call
use Rattle.ckrt_calls.specs.declared.number.ConditionCall.{ConditionCall}
use Rattle.ckrt_calls.specs.declared.number.ConditionCall.TheVariants as condition_call
use Rattle.ckrt_calls.specs.declared.number.BarrierCall.{BarrierCall}
use Rattle.ckrt_calls.specs.declared.number.BarrierCall.TheVariants as barrier_call
use Rattle.ckrt_calls.specs.declared.number.RwLockCall.{RwLockCall}
use Rattle.ckrt_calls.specs.declared.number.RwLockCall.TheVariants as rwlock_call
use Rattle.ckrt_calls.specs.declared.number.CancellationCall.{CancellationCall}
use Rattle.ckrt_calls.specs.declared.number.CancellationCall.TheVariants as cancellation_call
use Rattle.ckrt_calls.specs.declared.number.KeyCall.{KeyCall}
use Rattle.ckrt_calls.specs.declared.number.KeyCall.TheVariants as key_call
use Rattle.ckrt_calls.specs.Table as calls
use Rattle.ckrt_events.specs.declared.event.Event.{Event}
use Rattle.ckrt_events.specs.declared.event.Event.TheVariants.{Place, Run, Input, Eof, Tick, RunLong}
use Rattle.ckrt_machine.specs.declared.event.RunEnd.{RunEnd}
use Rattle.ckrt_machine.specs.Events.{fold, step}
use Rattle.ckrt_machine.specs.Runs.{Ran, run_on, stopped}
use Rattle.ckrt_machine.specs.Steps.{State, Stepped, acted, hart_of, hart_step, handled, performed, returned, slot_step, step_of, thread_step, with_regs, with_result}

-- WHAT NO EVENT CHANGES

abbrev Fixed : Type 0
Fixed = ℕ × Bool

-- how many harts there are, and whether the program may have keys
abbrev fixed : threads.State → Fixed
fixed s = (s.hart_count, s.keys.is_on)

-- a test chooses between two that have the same
pub split : {A N : Type 0} (of : A → N) (n : N) (b : Bool) (x y : A) → of x ≡ n → of y ≡ n → of (cond b x y) ≡ n
split of n true x y p q = p
split of n false x y p q = q

-- two tests, one behind another, and three
pub split_2 : {A N : Type 0} (of : A → N) (n : N) (b c : Bool) (x y z : A) → of x ≡ n → of y ≡ n → of z ≡ n → of (cond b x (cond c y z)) ≡ n
split_2 of n true c x y z p q r = p
split_2 of n false c x y z p q r = split of n c y z q r

pub split_3 : {A N : Type 0} (of : A → N) (n : N) (b c d : Bool) (w x y z : A) → of w ≡ n → of x ≡ n → of y ≡ n → of z ≡ n → of (cond b w (cond c x (cond d y z))) ≡ n
split_3 of n true c d w x y z p q r t = p
split_3 of n false c d w x y z p q r t = split_2 of n c d x y z q r t

-- ENDS AND HANDLERS

same_end : (w : Option Wait) (t v : ℕ) (s : threads.State) → fixed (rows.end_with w t v s) ≡ fixed s
same_end None t v s = split (λ (z : threads.State). fixed z) (fixed s) _ _ _ refl refl
same_end (Some w) t v s = refl

same_finished : (t v : ℕ) (s : threads.State) → fixed (rows.finished t v s) ≡ fixed s
same_finished t v s = same_end _ t v (threads.off_hart t s)

same_destroyed : (o : Option Turn) (t : ℕ) (s : threads.State) → fixed (unwinding.destroyed_by o t s) ≡ fixed s
same_destroyed None t s = same_finished t _ s
same_destroyed (Some turn) t s = refl

same_handled : (h : Option Handler) (t : ℕ) (s : threads.State) → fixed (unwinding.handled_by h t s) ≡ fixed s
same_handled None t s = same_destroyed (unwinding.turn_of t s) t s
same_handled (Some h) t s = refl

same_next_handler : (t : ℕ) (s : threads.State) → fixed (unwinding.next_handler t s) ≡ fixed s
same_next_handler t s = same_handled (unwinding.newest_handler t s) t s

-- GRANTS

same_answered : (v : Option ℕ) (t : ℕ) (s : threads.State) → fixed (answered v t s) ≡ fixed s
same_answered (Some v) t s = refl
same_answered None t s = same_next_handler t s

same_obtained : (w : Wait) (s : threads.State) → fixed (obtained w s) ≡ fixed s
same_obtained w s = same_answered (wait_result w.reason) w.thread (threads.unwaited w.thread s)

module _ {O : Type 0} (rule : GrantRule O) where
  same_grant : (more : O → threads.State → O × threads.State) → ((o : O) (s : threads.State) → fixed (more o s).1 ≡ fixed s)
      → (w : Option Wait) (o : O) (s : threads.State) → fixed (grant rule more w o s).1 ≡ fixed s
  same_grant more same None o s = refl
  same_grant more same (Some w) o s = split (λ (r : O × threads.State). fixed r.1) (fixed s) _ _ _ (same (rule.granted o w) (obtained w s) ∙ same_obtained w s) refl

  same_grants : (n : ℕ) (o : O) (s : threads.State) → fixed (grant_up_to rule n o s).1 ≡ fixed s
  same_grants zero o s = refl
  same_grants (suc n) o s = same_grant (grant_up_to rule n) (same_grants n) _ o s

same_all_woken : (v : ℕ) (ws : List Wait) (s : threads.State) → fixed (threads.all_woken v ws s) ≡ fixed s
same_all_woken v [] s = refl
same_all_woken v (w ∷ ws) s = same_all_woken v ws (threads.woken w.thread v s)

-- THREADS

abbrev of_threads : rows.After → Fixed
of_threads r = fixed r.threads

same_create : (by start arg sp detached : ℕ) (s : threads.State) → fixed (rows.create_row by start arg sp detached s).threads ≡ fixed s
same_create by start arg sp detached s = split of_threads (fixed s) _ _ _ refl (at (threads.free_place s))
  where
    at : (i : Option ℕ) → fixed (rows.create_at i by start arg sp (detached == 1) s).threads ≡ fixed s
    at None = refl
    at (Some i) = refl

same_join : (by id : ℕ) (s : threads.State) → fixed (rows.join_row by id s).threads ≡ fixed s
same_join by id s = split of_threads (fixed s) _ _ _ refl (at (threads.thread_of s id))
  where
    at : (o : Option Thread) → fixed (rows.join_at o by id s).threads ≡ fixed s
    at None = refl
    at (Some (thread.Ended v)) = refl
    at (Some (thread.Live l)) = split of_threads (fixed s) _ _ _ refl refl

same_detach : (id : ℕ) (s : threads.State) → fixed (rows.detach_row id s).threads ≡ fixed s
same_detach id s = at (threads.thread_of s id)
  where
    at : (o : Option Thread) → fixed (rows.detach_at o id s).threads ≡ fixed s
    at None = refl
    at (Some (thread.Ended v)) = refl
    at (Some (thread.Live l)) = split of_threads (fixed s) _ _ _ refl refl

-- MUTEXES

abbrev of_mutexes : mutex.After → Fixed
of_mutexes r = fixed r.threads

module _ (s : threads.State) (ms : List (Entry Mutex)) where
  same_init_kind : (k : Option Kind) (a : ℕ) → fixed (mutex.init_kind k a s ms).threads ≡ fixed s
  same_init_kind None a = refl
  same_init_kind (Some k) a = split_2 of_mutexes (fixed s) _ _ (mutex.unchanged (result.Done EBUSY) s ms) (mutex.unchanged (result.Done EAGAIN) s ms) (record { result = result.Done 0; threads = s; mutexes = put a (free k) ms }) refl refl refl

  same_taken : (m : Mutex) (t a : ℕ) → fixed (mutex.taken m t a s ms).threads ≡ fixed s
  same_taken m t a = split of_mutexes (fixed s) _ _ _ refl refl

  same_taken_or : (wait : mutex.After) (m : Mutex) (t a : ℕ) → fixed wait.threads ≡ fixed s → fixed (mutex.taken_or wait m t a s ms).threads ≡ fixed s
  same_taken_or wait m t a same = split_2 of_mutexes (fixed s) _ _ (mutex.taken m t a s ms) (mutex.unchanged (result.Done EDEADLK) s ms) wait (same_taken m t a) refl same

  same_unlock : (t a : ℕ) → fixed (mutex.unlock_row t a s ms).threads ≡ fixed s
  same_unlock t a = let m = mutex_at a ms in split_2 of_mutexes (fixed s) _ _ (mutex.unchanged (result.Done EPERM) s ms) (record { result = result.Done 0; threads = s; mutexes = put a (owned m.kind t (m.count - 1)) ms }) (mutex.released m.kind a s ms) refl refl (same_grants (mutex.mutex_rule a) _ (free (mutex_at a ms).kind) s)

  same_retake : (t a : ℕ) (r : RetakeResult) → fixed (mutex.retake_row t a r s ms).threads ≡ fixed s
  same_retake t a r = split of_mutexes (fixed s) _ _ _ (same_answered (retake_code r) t s) refl

  same_trylock : (t a : ℕ) → fixed (mutex.trylock_row t a s ms).threads ≡ fixed s
  same_trylock t a = split of_mutexes (fixed s) _ _ _ (same_taken (mutex_at a ms) t a) refl

  same_lock : (t a : ℕ) → fixed (mutex.lock_row t a s ms).threads ≡ fixed s
  same_lock t a = same_taken_or (mutex.waiting t a None s ms) (mutex_at a ms) t a refl

  same_timedlock : (t a moment clock : ℕ) → fixed (mutex.timedlock_row t a moment clock s ms).threads ≡ fixed s
  same_timedlock t a moment clock = same_taken_or (mutex.waiting_until t a moment clock s ms) (mutex_at a ms) t a
      (split_2 of_mutexes (fixed s) _ _ (mutex.unchanged (result.Done EINVAL) s ms) (mutex.unchanged (result.Done ETIMEDOUT) s ms) (mutex.waiting t a (Some moment) s ms) refl refl refl)

  same_destroy : (a : ℕ) → fixed (mutex.destroy_row a s ms).threads ≡ fixed s
  same_destroy a = split of_mutexes (fixed s) _ _ _ refl refl

-- CONDITIONS

same_released_then : (next : threads.State → List (Entry Mutex) → mutex.After) → ((z : threads.State) (ns : List (Entry Mutex)) → fixed (next z ns).threads ≡ fixed z)
    → (e : Option ℕ) (t a : ℕ) (s : threads.State) (ms : List (Entry Mutex)) → fixed (condition.released_then next e t a s ms).threads ≡ fixed s
same_released_then next same (Some e) t a s ms = refl
same_released_then next same None t a s ms = same _ _ ∙ same_unlock s ms t a

same_wait : (t c a : ℕ) (s : threads.State) (ms : List (Entry Mutex)) → fixed (condition.wait_row t c a s ms).threads ≡ fixed s
same_wait t c a s ms = same_released_then (condition.waiting_at t c a None) (λ z ns. refl) _ t a s ms

same_timedwait : (t c a d n : ℕ) (s : threads.State) (ms : List (Entry Mutex)) → fixed (condition.timedwait_row t c a d n s ms).threads ≡ fixed s
same_timedwait t c a d n s ms =
    let refused = condition.wait_refusal t c a s ms in
    let late = mutex.retake_row t a retake.TimedOut in
    let early = condition.waiting_at t c a (Some d) in
    split_2 of_mutexes (fixed s) _ _ (mutex.unchanged (result.Done EINVAL) s ms) (condition.released_then late refused t a s ms) (condition.released_then early refused t a s ms) refl
    (same_released_then late (λ z ns. same_retake z ns t a retake.TimedOut) refused t a s ms)
    (same_released_then early (λ z ns. refl) refused t a s ms)

same_resume : (t a : ℕ) (r : RetakeResult) (s : threads.State) (ms : List (Entry Mutex)) → fixed (condition.resume_row t a r s ms).threads ≡ fixed s
same_resume t a r s ms = same_retake (threads.unwaited t s) ms t a r

same_woken_from : (r : Reason) (t : ℕ) (s : threads.State) (ms : List (Entry Mutex)) → fixed (condition.woken_from r t s ms).threads ≡ fixed s
same_woken_from (reason.Condition c a) t s ms = same_resume t a retake.Done s ms
same_woken_from (reason.Join q) t s ms = refl
same_woken_from (reason.Lock a) t s ms = refl
same_woken_from (reason.Retake a r) t s ms = refl
same_woken_from (reason.Barrier b) t s ms = refl
same_woken_from (reason.Read l) t s ms = refl
same_woken_from (reason.Write l) t s ms = refl
same_woken_from reason.Input t s ms = refl
same_woken_from reason.Sleep t s ms = refl

same_woken : (ws : List Wait) (s : threads.State) (ms : List (Entry Mutex)) → fixed (condition.all_woken ws s ms).threads ≡ fixed s
same_woken [] s ms = refl
same_woken (w ∷ ws) s ms = same_woken ws _ _ ∙ same_woken_from w.reason w.thread s ms

-- BARRIERS

abbrev of_barriers : barrier.After → Fixed
of_barriers r = fixed r.threads

module _ (s : threads.State) (bs : List (Entry Barrier)) where
  same_barrier_init : (b count : ℕ) → fixed (barrier.init_row b count s bs).threads ≡ fixed s
  same_barrier_init b count = split_3 of_barriers (fixed s) _ _ _ (barrier.unchanged (result.Done EBUSY) s bs) (barrier.unchanged (result.Done EINVAL) s bs) (barrier.unchanged (result.Done EAGAIN) s bs) (record { result = result.Done 0; threads = s; barriers = stored b (record { count = count }) bs }) refl refl refl refl

  same_barrier_destroy : (b : ℕ) → fixed (barrier.destroy_row b s bs).threads ≡ fixed s
  same_barrier_destroy b = split_2 of_barriers (fixed s) _ _ (barrier.unchanged (result.Done EBUSY) s bs) (barrier.unchanged (result.Done EINVAL) s bs) (record { result = result.Done 0; threads = s; barriers = removed b bs }) refl refl refl

  same_barrier_wait : (t b : ℕ) → fixed (barrier.wait_row t b s bs).threads ≡ fixed s
  same_barrier_wait t b = at (lookup b bs)
    where
      at : (o : Option Barrier) → fixed (barrier.wait_at o t b s bs).threads ≡ fixed s
      at None = refl
      at (Some x) = split of_barriers (fixed s) _ _ _ (same_all_woken 0 (barrier.waiters b s) s) refl

-- READ-WRITE LOCKS

abbrev of_locks : rwlock.After → Fixed
of_locks r = fixed r.threads

module _ (s : threads.State) (ls : List (Entry RwLock)) where
  -- a thread that neither writes nor reads it
  abbrev first_lock : RwLock → ℕ → ℕ → rwlock.After
  first_lock l t a = cond (rwlock.is_full a s ls) (rwlock.unchanged (result.Done EAGAIN) s ls) (cond (is_written l || rwlock.is_awaited a s) (rwlock.waiting (reason.Read a) t s ls) (rwlock.reading l t a s ls))

  same_first : (l : RwLock) (t a : ℕ) → fixed (first_lock l t a).threads ≡ fixed s
  same_first l t a = split_2 of_locks (fixed s) _ _ (rwlock.unchanged (result.Done EAGAIN) s ls) (rwlock.waiting (reason.Read a) t s ls) (rwlock.reading l t a s ls) refl refl refl

  same_again : (l : RwLock) (t a : ℕ) → fixed (rwlock.reading_again l t a s ls).threads ≡ fixed s
  same_again l t a = split of_locks (fixed s) _ (rwlock.unchanged (result.Done EAGAIN) s ls) (rwlock.reading l t a s ls) refl refl

  same_rdlock : (t a : ℕ) → fixed (rwlock.rdlock_row t a s ls).threads ≡ fixed s
  same_rdlock t a = let l = lock_at a ls in split_2 of_locks (fixed s) _ _ (rwlock.unchanged (result.Done EDEADLK) s ls) (rwlock.reading_again l t a s ls) (first_lock l t a) refl (same_again l t a) (same_first l t a)

  same_wrlock : (t a : ℕ) → fixed (rwlock.wrlock_row t a s ls).threads ≡ fixed s
  same_wrlock t a = split_3 of_locks (fixed s) _ _ _ (rwlock.unchanged (result.Done EDEADLK) s ls) (rwlock.unchanged (result.Done EAGAIN) s ls) (rwlock.waiting (reason.Write a) t s ls) (rwlock.changed (with_writer (Some t) (lock_at a ls)) a s ls) refl refl refl refl

  same_or_busy : (r : rwlock.After) → fixed r.threads ≡ fixed s → fixed (rwlock.or_busy r s ls).threads ≡ fixed s
  same_or_busy r same = split of_locks (fixed s) _ _ _ same refl

  same_rwlock_unlock : (t a : ℕ) → fixed (rwlock.unlock_row t a s ls).threads ≡ fixed s
  same_rwlock_unlock t a = split of_locks (fixed s) _ _ _ refl (same_grants (rwlock.rwlock_rule a) _ (given_up t (lock_at a ls)) s)

-- CANCELLATION

same_act : (t : ℕ) (s : threads.State) → fixed (cancel.act_on_request t s) ≡ fixed s
same_act t s = same_next_handler t (cancel.cancelled t s)

same_begin_unwind : (t v : ℕ) (s : threads.State) → fixed (cancel.begin_unwind t v s) ≡ fixed s
same_begin_unwind t v s = same_next_handler t (cancel.unwinding_from t v s)

same_request_while : (r : Reason) (t : ℕ) (s : threads.State) (ms : List (Entry Mutex)) → fixed (cancel.request_while r t s ms).threads ≡ fixed s
same_request_while reason.Input t s ms = same_act t (threads.unwaited t s)
same_request_while reason.Sleep t s ms = same_act t (threads.unwaited t s)
same_request_while (reason.Join q) t s ms = same_act t (threads.unwaited t s)
same_request_while (reason.Condition c a) t s ms = same_resume t a retake.Unwind (cancel.cancelled t s) ms
same_request_while (reason.Lock a) t s ms = refl
same_request_while (reason.Retake a r) t s ms = refl
same_request_while (reason.Barrier b) t s ms = refl
same_request_while (reason.Read l) t s ms = refl
same_request_while (reason.Write l) t s ms = refl

same_request : (id : ℕ) (s : threads.State) (ms : List (Entry Mutex)) → fixed (cancel.request_row id s ms).threads ≡ fixed s
same_request id s ms = at (threads.thread_of s id)
  where
    inside : (w : Option Wait) → fixed (cancel.request_in w id s ms).threads ≡ fixed s
    inside None = refl
    inside (Some w) = same_request_while w.reason id s ms

    at : (o : Option Thread) → fixed (cancel.request_for o id s ms).threads ≡ fixed s
    at None = refl
    at (Some (thread.Ended v)) = refl
    at (Some (thread.Live l)) = split of_mutexes (fixed s) _ _ _ (inside _) refl

same_pop : (h : Option Handler) (t execute back : ℕ) (s : threads.State) → fixed (cancel.pop_of h t execute back s).threads ≡ fixed s
same_pop None t execute back s = refl
same_pop (Some h) t execute back s = split of_threads (fixed s) _ _ _ refl refl

-- CALLS

abbrev of_tables : calls.After → Fixed
of_tables r = fixed r.tables.threads

same_getc : (bytes : List ℕ) (t : ℕ) (s : Tables) → fixed (calls.getc_of bytes t s).tables.threads ≡ fixed s.threads
same_getc [] t s = split of_tables (fixed s.threads) _ _ _ refl refl
same_getc (b ∷ bs) t s = refl

same_process_row : (c : ProcessCall) (t : ℕ) (r : Registers) (s : Tables) → fixed (calls.process_row c t r s).tables.threads ≡ fixed s.threads
same_process_row process_call.Exit t r s = refl
same_process_row process_call.Putc t r s = refl
same_process_row process_call.Getc t r s = same_getc s.input t s
same_process_row process_call.Clock t r s = refl
same_process_row process_call.SleepUntil t r s = split_2 of_tables (fixed s.threads) _ _ (calls.done EINVAL s) (calls.done 0 s) (calls.waits t reason.Sleep (Some (calls.moment_of (get r 10) (get r 11))) s) refl refl refl

same_thread_row : (c : ThreadCall) (t : ℕ) (r : Registers) (s : Tables) → fixed (calls.thread_row c t r s).tables.threads ≡ fixed s.threads
same_thread_row thread_call.Create t r s = same_create t (get r 10) (get r 11) (get r 12) (get r 13) s.threads
same_thread_row thread_call.Join t r s = same_join t (get r 10) s.threads
same_thread_row thread_call.Detach t r s = same_detach (get r 10) s.threads
same_thread_row thread_call.Exit t r s = same_begin_unwind t (get r 10) s.threads
same_thread_row thread_call.SelfId t r s = refl

same_mutex_row : (c : MutexCall) (t : ℕ) (r : Registers) (s : Tables) → fixed (calls.mutex_row c t r s).tables.threads ≡ fixed s.threads
same_mutex_row mutex_call.Init t r s = same_init_kind s.threads s.mutexes (mutex.kind_of (get r 11)) (get r 10)
same_mutex_row mutex_call.Destroy t r s = same_destroy s.threads s.mutexes (get r 10)
same_mutex_row mutex_call.Lock t r s = same_lock s.threads s.mutexes t (get r 10)
same_mutex_row mutex_call.TryLock t r s = same_trylock s.threads s.mutexes t (get r 10)
same_mutex_row mutex_call.TimedLock t r s = same_timedlock s.threads s.mutexes t (get r 10) _ s.clock
same_mutex_row mutex_call.Unlock t r s = same_unlock s.threads s.mutexes t (get r 10)

same_condition_row : (c : ConditionCall) (t : ℕ) (r : Registers) (s : Tables) → fixed (calls.condition_row c t r s).tables.threads ≡ fixed s.threads
same_condition_row condition_call.Init t r s = split of_mutexes (fixed s.threads) _ _ _ refl refl
same_condition_row condition_call.Destroy t r s = split of_mutexes (fixed s.threads) _ _ _ refl refl
same_condition_row condition_call.Wait t r s = same_wait t (get r 10) (get r 11) s.threads s.mutexes
same_condition_row condition_call.TimedWait t r s = same_timedwait t (get r 10) (get r 11) _ s.clock s.threads s.mutexes
same_condition_row condition_call.Signal t r s = same_woken (take 1 (condition.waiters (get r 10) s.threads)) s.threads s.mutexes
same_condition_row condition_call.Broadcast t r s = same_woken (condition.waiters (get r 10) s.threads) s.threads s.mutexes

same_barrier_row : (c : BarrierCall) (t : ℕ) (r : Registers) (s : Tables) → fixed (calls.barrier_row c t r s).tables.threads ≡ fixed s.threads
same_barrier_row barrier_call.Init t r s = same_barrier_init s.threads s.barriers (get r 10) (get r 11)
same_barrier_row barrier_call.Destroy t r s = same_barrier_destroy s.threads s.barriers (get r 10)
same_barrier_row barrier_call.Wait t r s = same_barrier_wait s.threads s.barriers t (get r 10)

same_rwlock_row : (c : RwLockCall) (t : ℕ) (r : Registers) (s : Tables) → fixed (calls.rwlock_row c t r s).tables.threads ≡ fixed s.threads
same_rwlock_row rwlock_call.Init t r s = refl
same_rwlock_row rwlock_call.Destroy t r s = refl
same_rwlock_row rwlock_call.RdLock t r s = same_rdlock s.threads s.rwlocks t (get r 10)
same_rwlock_row rwlock_call.TryRdLock t r s = same_or_busy s.threads s.rwlocks (rwlock.rdlock_row t (get r 10) s.threads s.rwlocks) (same_rdlock s.threads s.rwlocks t (get r 10))
same_rwlock_row rwlock_call.WrLock t r s = same_wrlock s.threads s.rwlocks t (get r 10)
same_rwlock_row rwlock_call.TryWrLock t r s = same_or_busy s.threads s.rwlocks (rwlock.wrlock_row t (get r 10) s.threads s.rwlocks) (same_wrlock s.threads s.rwlocks t (get r 10))
same_rwlock_row rwlock_call.Unlock t r s = same_rwlock_unlock s.threads s.rwlocks t (get r 10)

same_cancellation_row : (c : CancellationCall) (t : ℕ) (r : Registers) (s : Tables) → fixed (calls.cancellation_row c t r s).tables.threads ≡ fixed s.threads
same_cancellation_row cancellation_call.Cancel t r s = same_request (get r 10) s.threads s.mutexes
same_cancellation_row cancellation_call.TestCancel t r s = refl
same_cancellation_row cancellation_call.SetCancelState t r s = split of_threads (fixed s.threads) _ _ _ refl refl
same_cancellation_row cancellation_call.SetCancelType t r s = split of_threads (fixed s.threads) _ _ _ refl refl
same_cancellation_row cancellation_call.CleanupPush t r s = split_2 of_threads (fixed s.threads) _ _ (rows.unchanged (result.Done EINVAL) s.threads) (rows.unchanged (result.Done EAGAIN) s.threads) (record { result = result.Done 0; threads = unwinding.pushed (record { routine = get r 10; argument = get r 11 }) t s.threads }) refl refl refl
same_cancellation_row cancellation_call.CleanupPop t r s = same_pop (unwinding.newest_handler t s.threads) t (get r 10) r.pc s.threads

same_created : (o : Option ℕ) (t d : ℕ) (s : threads.State) → fixed (keys.key_created o t d s).threads ≡ fixed s
same_created None t d s = refl
same_created (Some k) t d s = refl

same_if_key : (k : ℕ) (s : threads.State) (r : rows.After) → fixed r.threads ≡ fixed s → fixed (keys.if_on s (keys.if_key k s r)).threads ≡ fixed s
same_if_key k s r e =
    split of_threads (fixed s) s.keys.is_on (keys.if_key k s r) (rows.unchanged (result.Done ENOSYS) s)
    (split of_threads (fixed s) (is_key s.keys k) r (rows.unchanged (result.Done EINVAL) s) e refl) refl

same_key_row : (c : KeyCall) (t : ℕ) (r : Registers) (s : Tables) → fixed (calls.key_row c t r s).tables.threads ≡ fixed s.threads
same_key_row key_call.Create t r s =
    let z = s.threads in
    let made = keys.key_created (free_key z.keys) t (get r 10) z in
    split of_threads (fixed z) z.keys.is_on (cond (not (get r 10 % 4 == 0)) (rows.unchanged (result.Done EINVAL) z) made) (rows.unchanged (result.Done ENOSYS) z)
    (split of_threads (fixed z) (not (get r 10 % 4 == 0)) (rows.unchanged (result.Done EINVAL) z) made refl (same_created (free_key z.keys) t (get r 10) z)) refl
same_key_row key_call.Delete t r s = same_if_key (get r 10) s.threads (record { result = result.Done 0; threads = without_key_of (get r 10) s.threads }) refl
same_key_row key_call.SetSpecific t r s = same_if_key (get r 10) s.threads (record { result = result.Done 0; threads = with_value_of t (get r 10) (get r 11) s.threads }) refl
same_key_row key_call.GetSpecific t r s = same_if_key (get r 10) s.threads (record { result = result.Done 0; threads = threads.set_word t A1 (value_of t (get r 10) s.threads) s.threads }) refl

same_row : (c : Call) (t : ℕ) (r : Registers) (s : Tables) → fixed (calls.row c t r s).tables.threads ≡ fixed s.threads
same_row (call.Process c) t r s = same_process_row c t r s
same_row (call.Thread c) t r s = same_thread_row c t r s
same_row (call.Mutex c) t r s = same_mutex_row c t r s
same_row (call.Condition c) t r s = same_condition_row c t r s
same_row (call.Barrier c) t r s = same_barrier_row c t r s
same_row (call.RwLock c) t r s = same_rwlock_row c t r s
same_row (call.Cancellation c) t r s = same_cancellation_row c t r s
same_row (call.Key c) t r s = same_key_row c t r s

same_or_unknown : (c : Option Call) (t : ℕ) (r : Registers) (s : Tables) → fixed (calls.row_or_unknown c t r s).tables.threads ≡ fixed s.threads
same_or_unknown None t r s = refl
same_or_unknown (Some c) t r s = split of_tables (fixed s.threads) _ _ _ (same_act t s.threads) (same_row c t r s)

same_called : (t : ℕ) (s : Tables) → fixed (calls.called t s).tables.threads ≡ fixed s.threads
same_called t s = with_registers (threads.regs_of (threads.thread_of s.threads t))
  where
    with_registers : (r : Option Registers) → fixed (calls.called_with r t s).tables.threads ≡ fixed s.threads
    with_registers None = refl
    with_registers (Some r) = same_or_unknown (calls.call_of (get r 17)) t r s

-- STEPS AND RUNS

same_with_result : (r : CallResult) (t : ℕ) (s : Tables) → fixed (with_result r t s).threads ≡ fixed s.threads
same_with_result (result.Done v) t s = refl
same_with_result result.Blocked t s = refl
same_with_result result.Moved t s = refl

abbrev of_step : Stepped → Fixed
of_step e = fixed e.state.tables.threads

same_performed : (o : Outcome) (t : ℕ) (r : Registers) (m : List ℕ) (s : State) → fixed (performed o t r m s).state.tables.threads ≡ fixed s.tables.threads
same_performed outcome.Next t r m s = refl
same_performed outcome.Call t r m s = same_with_result (calls.called t (with_regs t r s.tables)).result t _ ∙ same_called t (with_regs t r s.tables)
same_performed (outcome.Fault c) t r m s = refl

same_returned : (b : Bool) (t v : ℕ) (s : State) → fixed (returned b v t s).state.tables.threads ≡ fixed s.tables.threads
same_returned true t v s = refl
same_returned false t v s = same_begin_unwind t v s.tables.threads

same_gate : (b : Bool) (pc t : ℕ) (s : State) → fixed (handled b pc t s).state.tables.threads ≡ fixed s.tables.threads
same_gate true pc t s = same_next_handler t s.tables.threads
same_gate false pc t s = refl

same_thread_step : (l : Live) (t : ℕ) (s : State) → fixed (thread_step l t s).state.tables.threads ≡ fixed s.tables.threads
same_thread_step l t s =
    let after = instruction_step l.regs s.bytes in
    split_3 of_step (fixed s.tables.threads) _ _ _ (acted t s) (returned l.initial (get l.regs A0) t s) (handled (is_some l.cancellation.unwinding) l.regs.pc t s) (performed after.outcome t after.registers after.bytes s)
    (same_act t s.tables.threads) (same_returned l.initial t (get l.regs A0) s) (same_gate (is_some l.cancellation.unwinding) l.regs.pc t s) (same_performed after.outcome t after.registers after.bytes s)

same_slot_step : (o : Option Thread) (t : ℕ) (s : State) → fixed (slot_step o t s).state.tables.threads ≡ fixed s.tables.threads
same_slot_step None t s = refl
same_slot_step (Some (thread.Ended v)) t s = refl
same_slot_step (Some (thread.Live l)) t s = same_thread_step l t s

same_step_of : (o : Option ℕ) (s : State) → fixed (step_of o s).state.tables.threads ≡ fixed s.tables.threads
same_step_of None s = refl
same_step_of (Some t) s = same_slot_step (threads.thread_of s.tables.threads t) t s

same_stopped : (more : ℕ → State → List ℕ → Ran) → ((h : ℕ) (s : State) (out : List ℕ) → fixed (more h s out).state.tables.threads ≡ fixed s.tables.threads)
    → (w : Option RunEnd) (n h : ℕ) (s : State) (out : List ℕ) → fixed (stopped more w n h s out).state.tables.threads ≡ fixed s.tables.threads
same_stopped more same None n h s out = same h s out
same_stopped more same (Some w) n h s out = refl

same_run : (n h : ℕ) (s : State) (out : List ℕ) → fixed (run_on n h s out).state.tables.threads ≡ fixed s.tables.threads
same_run zero h s out = refl
same_run (suc n) h s out = same_stopped (run_on n) (same_run n) _ n h (hart_step h s).state _ ∙ same_step_of (hart_of s.tables h) s

-- INPUT AND TIME

same_feed_first : (more : threads.State → calls.Fed) → ((z : threads.State) → fixed (more z).threads ≡ fixed z) → (w : Option Wait) (bytes : List ℕ) (b : ℕ) (z : threads.State)
    → fixed (calls.feed_first more w bytes b z).threads ≡ fixed z
same_feed_first more same None bytes b z = refl
same_feed_first more same (Some w) bytes b z = same (threads.woken w.thread b z)

same_feed : (bytes : List ℕ) (z : threads.State) → fixed (calls.feed bytes z).threads ≡ fixed z
same_feed [] z = refl
same_feed (b ∷ bs) z = same_feed_first (calls.feed bs) (same_feed bs) _ (b ∷ bs) b z

same_timed_out : (r : Reason) (t : ℕ) (s : Tables) → fixed (calls.timed_out r t s).threads ≡ fixed s.threads
same_timed_out (reason.Condition c a) t s = same_resume t a retake.TimedOut s.threads s.mutexes
same_timed_out (reason.Join q) t s = refl
same_timed_out (reason.Lock a) t s = refl
same_timed_out (reason.Retake a r) t s = refl
same_timed_out (reason.Barrier b) t s = refl
same_timed_out (reason.Read l) t s = refl
same_timed_out (reason.Write l) t s = refl
same_timed_out reason.Input t s = refl
same_timed_out reason.Sleep t s = refl

same_all_timed_out : (ws : List Wait) (s : Tables) → fixed (calls.all_timed_out ws s).threads ≡ fixed s.threads
same_all_timed_out [] s = refl
same_all_timed_out (w ∷ ws) s = same_all_timed_out ws _ ∙ same_timed_out w.reason w.thread s

-- EVENTS

-- no event changes either
same_fixed : (e : Event) (s : State) → fixed (step e s).state.tables.threads ≡ fixed s.tables.threads
same_fixed (Place h t) s = refl
same_fixed (Run h n) s = same_run n h s []
same_fixed (RunLong h n) s = same_run n h s []
same_fixed (Input bytes) s = same_feed (s.tables.input ++ bytes.items) s.tables.threads
same_fixed Eof s = same_all_woken calls.END_OF_INPUT (queue_of object.Input s.tables.threads) s.tables.threads
same_fixed (Tick k) s = same_all_timed_out (due_waits (s.tables.clock + k) s.tables.threads.waits) s.tables

-- nor do several
same_fixed_after : (es : List Event) (s : State) → fixed (fold es s).state.tables.threads ≡ fixed s.tables.threads
same_fixed_after [] s = refl
same_fixed_after (e ∷ es) s = same_fixed_after es (step e s).state ∙ same_fixed e s

pub same_harts : (e : Event) (s : State) → (step e s).state.tables.threads.hart_count ≡ s.tables.threads.hart_count
same_harts e s = ap (λ (f : Fixed). f.0) (same_fixed e s)

pub same_mark : (e : Event) (s : State) → (step e s).state.tables.threads.keys.is_on ≡ s.tables.threads.keys.is_on
same_mark e s = ap (λ (f : Fixed). f.1) (same_fixed e s)

pub same_harts_after : (es : List Event) (s : State) → (fold es s).state.tables.threads.hart_count ≡ s.tables.threads.hart_count
same_harts_after es s = ap (λ (f : Fixed). f.0) (same_fixed_after es s)

pub same_mark_after : (es : List Event) (s : State) → (fold es s).state.tables.threads.keys.is_on ≡ s.tables.threads.keys.is_on
same_mark_after es s = ap (λ (f : Fixed). f.1) (same_fixed_after es s)
