-- A call of another thread leaves a thread where it stands: ready, or on its hart.
use Rattle.std.proofs.Common.{◌≡◌, ◌⊎◌, inl, inr, ◌==◌, ◌-◌, ◌+◌, ◌%◌, ◌<◌, ℕ, zero, suc, Bool, true, false, not, ◌||◌, ◌&&◌, cond, eqb, List, [], ◌∷◌, nat_le, nat_lt, take, map, length, Option, Some, None, refl, ap, ◌∙◌, subst, arith, slice_get}
use Rattle.std.specs.List.{list_any, find}
use Rattle.std.specs.Option.{option_flatten}
use Rattle.std.proofs.lemmas.Bool.Decides.{nat_tests}
use Rattle.std.proofs.lemmas.List.{length-map, length-set}
use Rattle.ckrt_registers.specs.Registers.{Registers, get}
use Rattle.ckrt_thread.specs.declared.records.CallResult.TheVariants as result
use Rattle.ckrt_thread.specs.declared.records.Handler.{Handler}
use Rattle.ckrt_thread.specs.declared.keys.Turn.{Turn}
use Rattle.ckrt_thread.specs.Keys.{is_key, free_key}
use Rattle.ckrt_thread.specs.ThreadKeys.{value_of, with_key_of, with_value_of, without_key_of}
use Rattle.ckrt_thread.specs.declared.records.Thread.{Thread}
use Rattle.ckrt_thread.specs.declared.records.Thread.TheVariants as thread
use Rattle.ckrt_thread.specs.declared.records.Live.{Live}
use Rattle.ckrt_thread.specs.declared.records.Wait.{Wait}
use Rattle.ckrt_thread.specs.declared.records.Reason.{Reason}
use Rattle.ckrt_thread.specs.declared.records.Reason.TheVariants as reason
use Rattle.ckrt_thread.specs.declared.records.RetakeResult.{RetakeResult}
use Rattle.ckrt_thread.specs.declared.records.RetakeResult.TheVariants as retake
use Rattle.ckrt_thread.specs.declared.records.Object.{Object}
use Rattle.ckrt_thread.specs.declared.records.Object.TheVariants as object
use Rattle.ckrt_thread.specs.Abi.{A0, A1}
use Rattle.ckrt_thread.specs.Granting.{GrantRule, answered, grant, grant_up_to, obtained, queue_of, wait_result}
use Rattle.ckrt_thread.specs.Rows as rows
use Rattle.ckrt_thread.specs.State as threads
use Rattle.ckrt_thread.specs.Unwinding as unwinding
use Rattle.ckrt_thread.specs.Waits.{is_for, is_of, retake_code}
use Rattle.ckrt_thread.proofs.SlotLemmas.{kept_at, live_below, live_change, slot_at, slot_elsewhere}
use Rattle.ckrt_thread.specs.Errors.{EAGAIN, EBUSY, EDEADLK, EINVAL, ENOSYS, EPERM, ETIMEDOUT}
use Rattle.ckrt_objects.specs.declared.address_map.Entry.{Entry}
use Rattle.ckrt_objects.specs.AddressMap.{has_entry, lookup, removed, stored}
use Rattle.ckrt_mutex.specs.declared.records.Kind.{Kind}
use Rattle.ckrt_mutex.specs.declared.records.Kind.TheVariants.{Normal}
use Rattle.ckrt_mutex.specs.declared.records.Mutex.{Mutex}
use Rattle.ckrt_mutex.specs.Mutex.{free, is_errorcheck, is_normal, is_owner, mutex_at, owned, put}
use Rattle.ckrt_mutex.specs.Rows as mutex
use Rattle.ckrt_rwlock.specs.declared.records.RwLock.{RwLock}
use Rattle.ckrt_rwlock.specs.RwLock.{given_up, is_held, is_reader, is_written, lock_at, with_writer}
use Rattle.ckrt_rwlock.specs.Rows as rwlock
use Rattle.ckrt_barrier.specs.declared.barrier.Barrier.{Barrier}
use Rattle.ckrt_barrier.specs.Rows as barrier
use Rattle.ckrt_cond.specs.Rows as condition
use Rattle.ckrt_cancel.specs.Rows as cancel
use Rattle.ckrt_cancel.specs.KeyRows as keys
use Rattle.ckrt_calls.specs.declared.table.Tables.{Tables}
use Rattle.ckrt_calls.specs.declared.number.Call.{Call}
use Rattle.ckrt_calls.specs.declared.number.Call.TheVariants as call
use Rattle.ckrt_calls.specs.declared.number.ProcessCall.{ProcessCall}
use Rattle.ckrt_calls.specs.declared.number.ProcessCall.TheVariants as process_call
use Rattle.ckrt_calls.specs.declared.number.ThreadCall.{ThreadCall}
use Rattle.ckrt_calls.specs.declared.number.ThreadCall.TheVariants as thread_call
use Rattle.ckrt_calls.specs.declared.number.MutexCall.{MutexCall}
use Rattle.ckrt_calls.specs.declared.number.MutexCall.TheVariants as mutex_call
use Rattle.ckrt_calls.specs.declared.number.ConditionCall.{ConditionCall}
use Rattle.ckrt_calls.specs.declared.number.ConditionCall.TheVariants as condition_call
use Rattle.ckrt_calls.specs.declared.number.BarrierCall.{BarrierCall}
use Rattle.ckrt_calls.specs.declared.number.BarrierCall.TheVariants as barrier_call
use Rattle.ckrt_calls.specs.declared.number.RwLockCall.{RwLockCall}
use Rattle.ckrt_calls.specs.declared.number.RwLockCall.TheVariants as rwlock_call
use Rattle.ckrt_calls.specs.declared.number.CancellationCall.{CancellationCall}
use Rattle.ckrt_calls.specs.declared.number.CancellationCall.TheVariants as cancellation_call
use Rattle.ckrt_calls.specs.declared.number.KeyCall.{KeyCall}
use Rattle.ckrt_calls.specs.declared.number.KeyCall.TheVariants as key_call
use Rattle.ckrt_calls.specs.Table as calls
use Rattle.ckrt_machine.proofs.StayLists.{Fails, first_fails, neither, none_appended, none_filtered, none_found, none_taken, none_without, not_either, still_off, still_put}

-- WHERE A THREAD STANDS

-- the hart is this one
abbrev pub is_at : Option ℕ → ℕ → Bool
is_at None h = false
is_at (Some g) h = g == h

-- the thread hasn't ended, waits for nothing, and is on this hart alone, or on none; and how long the list of harts is
pub record Stands (q : ℕ) (hart : Option ℕ) (size : ℕ) (s : threads.State) : Type 0 where
  pub live : threads.is_live s q ≡ true
  pub waits : list_any (is_of q) s.waits ≡ false
  pub harts : (h : ℕ) → threads.holds q (option_flatten (slice_get s.harts h)) ≡ is_at hart h
  pub room : length s.harts ≡ size

-- SMALL CHANGES

module _ (q : ℕ) (hart : Option ℕ) (size : ℕ) where
  turned : (t : ℕ) → (q == t) ≡ false → eqb t q ≡ false
  turned t n = grind (arith, nat_tests)

  -- a change of a thread's record
  pub changed : (f : Live → Live) (t : ℕ) (s : threads.State) → Stands q hart size s → Stands q hart size (record s { threads = threads.change_thread f t s.threads })
  changed f t s r = record { live = kept_at threads.is_live_thread f s.threads t q (live_change f) ∙ r.live; waits = r.waits; harts = r.harts; room = r.room }

  all_changed : (f : Live → Live) (ts : List (Option Thread)) (k : ℕ) → threads.is_live_thread (option_flatten (slice_get (map (threads.change_live f) ts) k)) ≡ threads.is_live_thread (option_flatten (slice_get ts k))
  all_changed f [] k = refl
  all_changed f (x ∷ ts) zero = live_change f x
  all_changed f (x ∷ ts) (suc k) = all_changed f ts k

  -- another thread's slot is set
  slot_set : (t : ℕ) (o : Option Thread) (s : threads.State) → (q == t) ≡ false → Stands q hart size s → Stands q hart size (threads.with_slot t o s)
  slot_set t o s n r = record { live = ap threads.is_live_thread (slot_elsewhere s.threads t q o (turned t n)) ∙ r.live; waits = r.waits; harts = r.harts; room = r.room }

  -- a slot is set to a thread that is live
  slot_begun : (t : ℕ) (l : Live) (s : threads.State) → Stands q hart size s → Stands q hart size (threads.with_slot t (Some (thread.Live l)) s)
  slot_begun t l s r = by_test (q == t) refl
    where
      by_test : (b : Bool) → (q == t) ≡ b → Stands q hart size (threads.with_slot t (Some (thread.Live l)) s)
      by_test false n = slot_set t (Some (thread.Live l)) s n r
      by_test true e =
          let same : q ≡ t = grind (arith, nat_tests) in
          let below : t < length s.threads = subst (λ k. k < length s.threads) same (live_below s.threads q r.live) in
          let is : eqb t q ≡ true = grind (arith, nat_tests) in
          record {
            live =
                ap threads.is_live_thread (slot_at s.threads t q (Some (thread.Live l)) below)
                ∙ ap (λ b. threads.is_live_thread (cond b (Some (thread.Live l)) (option_flatten (slice_get s.threads q)))) is;
            waits = r.waits;
            harts = r.harts;
            room = r.room;
          }

  off_hart : (t : ℕ) (s : threads.State) → (q == t) ≡ false → Stands q hart size s → Stands q hart size (threads.off_hart t s)
  off_hart t s n r = record { live = r.live; waits = r.waits; harts = λ h. still_off q t h s.harts n ∙ r.harts h; room = length-map s.harts (threads.off t) ∙ r.room }

  unwaited : (t : ℕ) (s : threads.State) → Stands q hart size s → Stands q hart size (threads.unwaited t s)
  unwaited t s r = record { live = r.live; waits = none_without q t s.waits r.waits; harts = r.harts; room = r.room }

  pub woken : (t v : ℕ) (s : threads.State) → Stands q hart size s → Stands q hart size (threads.woken t v s)
  woken t v s r = record {
    live = kept_at threads.is_live_thread (threads.with_word A0 v) s.threads t q (live_change (threads.with_word A0 v)) ∙ r.live;
    waits = none_without q t s.waits r.waits;
    harts = r.harts;
    room = r.room;
  }

  pub all_woken : (v : ℕ) (ws : List Wait) (s : threads.State) → Stands q hart size s → Stands q hart size (threads.all_woken v ws s)
  all_woken v [] s r = r
  all_woken v (w ∷ ws) s r = all_woken v ws (threads.woken w.thread v s) (woken w.thread v s r)

  blocked : (t : ℕ) (why : Reason) (d : Option ℕ) (s : threads.State) → (q == t) ≡ false → Stands q hart size s → Stands q hart size (threads.blocked t why d s)
  blocked t why d s n r = record {
    live = r.live;
    waits =
        none_appended (is_of q) s.waits ((record { thread = t; reason = why; deadline = d }) ∷ []) r.waits
        (not_either (q == t) false n refl);
    harts = λ h. still_off q t h s.harts n ∙ r.harts h;
    room = length-map s.harts (threads.off t) ∙ r.room;
  }

  pub placed : (h t : ℕ) (s : threads.State) → (q == t) ≡ false → is_at hart h ≡ false → Stands q hart size s → Stands q hart size (threads.placed_on h t s)
  placed h t s n e r = record { live = r.live; waits = r.waits; harts = λ k. still_put q h t k s.harts n (r.harts h ∙ e) ∙ r.harts k; room = length-set s.harts h (Some t) ∙ r.room }

  -- a test chooses between two
  pub split : {A : Type 0} (of : A → threads.State) (b : Bool) (x y : A) → Stands q hart size (of x) → Stands q hart size (of y) → Stands q hart size (of (cond b x y))
  split of true x y i j = i
  split of false x y i j = j

  -- ENDS AND HANDLERS of another thread

  module _ (t : ℕ) (other : (q == t) ≡ false) where
    end_with : (w : Option Wait) (v : ℕ) (s : threads.State) → Stands q hart size s → Stands q hart size (rows.end_with w t v s)
    end_with None v s r = split (λ (z : threads.State). z) (threads.is_detached (threads.thread_of s t)) (threads.with_slot t None s) (threads.with_slot t (Some (thread.Ended v)) s) (slot_set t None s other r) (slot_set t (Some (thread.Ended v)) s other r)
    end_with (Some w) v s r = slot_set t None (threads.set_word w.thread A1 v (threads.woken w.thread 0 s)) other (changed (threads.with_word A1 v) w.thread (threads.woken w.thread 0 s) (woken w.thread 0 s r))

    finished : (v : ℕ) (s : threads.State) → Stands q hart size s → Stands q hart size (rows.finished t v s)
    finished v s r = end_with (threads.first_waiter (object.End t) s) v (threads.off_hart t s) (off_hart t s other r)

    destroyed : (o : Option Turn) (s : threads.State) → Stands q hart size s → Stands q hart size (unwinding.destroyed_by o t s)
    destroyed None s r = finished _ s r
    destroyed (Some turn) s r = changed _ t s r

    goes_on : (h : Option Handler) (s : threads.State) → Stands q hart size s → Stands q hart size (unwinding.handled_by h t s)
    goes_on None s r = destroyed (unwinding.turn_of t s) s r
    goes_on (Some h) s r = changed _ t (unwinding.popped (Some h) t s) (changed _ t s r)

    pub next_handler : (s : threads.State) → Stands q hart size s → Stands q hart size (unwinding.next_handler t s)
    next_handler s r = goes_on (unwinding.newest_handler t s) s r

    answer : (v : Option ℕ) (s : threads.State) → Stands q hart size s → Stands q hart size (answered v t s)
    answer (Some v) s r = changed _ t s r
    answer None s r = next_handler s r

  -- GRANTS

  obtained_by : (w : Wait) (s : threads.State) → is_of q w ≡ false → Stands q hart size s → Stands q hart size (obtained w s)
  obtained_by w s n r = answer w.thread n (wait_result w.reason) (threads.unwaited w.thread s) (unwaited w.thread s r)

  module _ {O : Type 0} (rule : GrantRule O) where
    granted : (more : O → threads.State → O × threads.State) → ((o : O) (s : threads.State) → Stands q hart size s → Stands q hart size (more o s).1)
        → (w : Option Wait) (o : O) (s : threads.State) → Fails (is_of q) w → Stands q hart size s → Stands q hart size (grant rule more w o s).1
    granted more stay None o s n r = r
    granted more stay (Some w) o s n r =
        split (λ (z : O × threads.State). z.1) (rule.is_admissible o w) (more (rule.granted o w) (obtained w s)) (o, s) (stay (rule.granted o w) (obtained w s) (obtained_by w s n r)) r

    grants : (n : ℕ) (o : O) (s : threads.State) → Stands q hart size s → Stands q hart size (grant_up_to rule n o s).1
    grants zero o s r = r
    grants (suc n) o s r =
        granted (grant_up_to rule n) (grants n) (threads.first_waiter rule.object s) o s (first_fails (is_of q) (is_for rule.object) s.waits r.waits) r

  -- MUTEXES

  abbrev of_mutexes : mutex.After → threads.State
  of_mutexes r = r.threads

  module _ (s : threads.State) (ms : List (Entry Mutex)) (r : Stands q hart size s) where
    init_kind : (k : Option Kind) (a : ℕ) → Stands q hart size (mutex.init_kind k a s ms).threads
    init_kind None a = r
    init_kind (Some k) a =
        split of_mutexes (mutex.is_busy a s ms) (mutex.unchanged (result.Done EBUSY) s ms) (cond (not (is_normal k) && mutex.is_full a s ms) (mutex.unchanged (result.Done EAGAIN) s ms) (record { result = result.Done 0; threads = s; mutexes = put a (free k) ms })) r
        (split of_mutexes (not (is_normal k) && mutex.is_full a s ms) (mutex.unchanged (result.Done EAGAIN) s ms) (record { result = result.Done 0; threads = s; mutexes = put a (free k) ms }) r r)

    taken_by : (m : Mutex) (t a : ℕ) → Stands q hart size (mutex.taken m t a s ms).threads
    taken_by m t a = split of_mutexes _ (mutex.unchanged (result.Done EAGAIN) s ms) (record { result = result.Done 0; threads = s; mutexes = put a (owned m.kind t (m.count + 1)) ms }) r r

    taken_or : (wait : mutex.After) (m : Mutex) (t a : ℕ) → Stands q hart size wait.threads → Stands q hart size (mutex.taken_or wait m t a s ms).threads
    taken_or wait m t a w =
        split of_mutexes _ (mutex.taken m t a s ms) (cond (is_owner t m && is_errorcheck m.kind) (mutex.unchanged (result.Done EDEADLK) s ms) wait) (taken_by m t a)
        (split of_mutexes _ (mutex.unchanged (result.Done EDEADLK) s ms) wait r w)

    unlock : (t a : ℕ) → Stands q hart size (mutex.unlock_row t a s ms).threads
    unlock t a =
        let m = mutex_at a ms in
        let fewer : mutex.After = record { result = result.Done 0; threads = s; mutexes = put a (owned m.kind t (m.count - 1)) ms } in
        split of_mutexes _ (mutex.unchanged (result.Done EPERM) s ms) (cond (nat_lt 1 m.count) fewer (mutex.released m.kind a s ms)) r
        (split of_mutexes _ fewer (mutex.released m.kind a s ms) r (grants (mutex.mutex_rule a) _ (free m.kind) s r))

    retaken : (t a : ℕ) (how : RetakeResult) → (q == t) ≡ false → Stands q hart size (mutex.retake_row t a how s ms).threads
    retaken t a how n =
        let m = mutex_at a ms in
        split of_mutexes _ (record { result = mutex.answer_of (retake_code how); threads = answered (retake_code how) t s; mutexes = put a (owned m.kind t (m.count + 1)) ms }) (record { result = result.Blocked; threads = threads.blocked t (reason.Retake a how) None s; mutexes = ms })
        (answer t n (retake_code how) s r) (blocked t (reason.Retake a how) None s n r)

    trylock : (t a : ℕ) → Stands q hart size (mutex.trylock_row t a s ms).threads
    trylock t a = split of_mutexes _ (mutex.taken (mutex_at a ms) t a s ms) (mutex.unchanged (result.Done EBUSY) s ms) (taken_by (mutex_at a ms) t a) r

    lock : (t a : ℕ) → (q == t) ≡ false → Stands q hart size (mutex.lock_row t a s ms).threads
    lock t a n = taken_or (mutex.waiting t a None s ms) (mutex_at a ms) t a (blocked t (reason.Lock a) None s n r)

    timedlock : (t a moment clock : ℕ) → (q == t) ≡ false → Stands q hart size (mutex.timedlock_row t a moment clock s ms).threads
    timedlock t a moment clock n =
        taken_or (mutex.waiting_until t a moment clock s ms) (mutex_at a ms) t a
        (split of_mutexes _ (mutex.unchanged (result.Done EINVAL) s ms) (cond (nat_le moment clock) (mutex.unchanged (result.Done ETIMEDOUT) s ms) (mutex.waiting t a (Some moment) s ms)) r
        (split of_mutexes _ (mutex.unchanged (result.Done ETIMEDOUT) s ms) (mutex.waiting t a (Some moment) s ms) r (blocked t (reason.Lock a) (Some moment) s n r)))

    destroy : (a : ℕ) → Stands q hart size (mutex.destroy_row a s ms).threads
    destroy a = split of_mutexes _ (mutex.unchanged (result.Done EBUSY) s ms) (record { result = result.Done 0; threads = s; mutexes = put a (free Normal) ms }) r r

  -- CONDITIONS

  released_then : (next : threads.State → List (Entry Mutex) → mutex.After) → ((z : threads.State) (ns : List (Entry Mutex)) → Stands q hart size z → Stands q hart size (next z ns).threads)
      → (e : Option ℕ) (t a : ℕ) (s : threads.State) (ms : List (Entry Mutex)) → Stands q hart size s → Stands q hart size (condition.released_then next e t a s ms).threads
  released_then next stay (Some e) t a s ms r = r
  released_then next stay None t a s ms r = stay (mutex.unlock_row t a s ms).threads (mutex.unlock_row t a s ms).mutexes (unlock s ms r t a)

  condition_wait : (t c a : ℕ) (s : threads.State) (ms : List (Entry Mutex)) → (q == t) ≡ false → Stands q hart size s → Stands q hart size (condition.wait_row t c a s ms).threads
  condition_wait t c a s ms n r = released_then (condition.waiting_at t c a None) (λ z ns i. blocked t (reason.Condition c a) None z n i) _ t a s ms r

  timedwait : (t c a d m : ℕ) (s : threads.State) (ms : List (Entry Mutex)) → (q == t) ≡ false → Stands q hart size s → Stands q hart size (condition.timedwait_row t c a d m s ms).threads
  timedwait t c a d m s ms n r =
      let refused = condition.wait_refusal t c a s ms in
      let late = mutex.retake_row t a retake.TimedOut in
      let early = condition.waiting_at t c a (Some d) in
      split of_mutexes _ (mutex.unchanged (result.Done EINVAL) s ms) (cond (nat_le d m) (condition.released_then late refused t a s ms) (condition.released_then early refused t a s ms)) r
      (split of_mutexes _ (condition.released_then late refused t a s ms) (condition.released_then early refused t a s ms)
      (released_then late (λ z ns i. retaken z ns i t a retake.TimedOut n) refused t a s ms r)
      (released_then early (λ z ns i. blocked t (reason.Condition c a) (Some d) z n i) refused t a s ms r))

  pub resumed : (t a : ℕ) (how : RetakeResult) (s : threads.State) (ms : List (Entry Mutex)) → (q == t) ≡ false → Stands q hart size s → Stands q hart size (condition.resume_row t a how s ms).threads
  resumed t a how s ms n r = retaken (threads.unwaited t s) ms (unwaited t s r) t a how n

  woken_from : (why : Reason) (t : ℕ) (s : threads.State) (ms : List (Entry Mutex)) → (q == t) ≡ false → Stands q hart size s → Stands q hart size (condition.woken_from why t s ms).threads
  woken_from (reason.Condition c a) t s ms n r = resumed t a retake.Done s ms n r
  woken_from (reason.Join j) t s ms n r = r
  woken_from (reason.Lock a) t s ms n r = r
  woken_from (reason.Retake a how) t s ms n r = r
  woken_from (reason.Barrier b) t s ms n r = r
  woken_from (reason.Read l) t s ms n r = r
  woken_from (reason.Write l) t s ms n r = r
  woken_from reason.Input t s ms n r = r
  woken_from reason.Sleep t s ms n r = r

  signalled : (ws : List Wait) (s : threads.State) (ms : List (Entry Mutex)) → list_any (is_of q) ws ≡ false → Stands q hart size s → Stands q hart size (condition.all_woken ws s ms).threads
  signalled [] s ms e r = r
  signalled (w ∷ ws) s ms e r =
      let k = neither (is_of q w) (list_any (is_of q) ws) e in
      let z = condition.woken_from w.reason w.thread s ms in
      signalled ws z.threads z.mutexes k.1 (woken_from w.reason w.thread s ms k.0 r)

  no_waiter : (o : Object) (s : threads.State) → Stands q hart size s → list_any (is_of q) (queue_of o s) ≡ false
  no_waiter o s r = none_filtered (is_of q) (is_for o) s.waits r.waits

  -- BARRIERS

  abbrev of_barriers : barrier.After → threads.State
  of_barriers r = r.threads

  module _ (s : threads.State) (bs : List (Entry Barrier)) (r : Stands q hart size s) where
    barrier_init : (b count : ℕ) → Stands q hart size (barrier.init_row b count s bs).threads
    barrier_init b count =
        let new : barrier.After = record { result = result.Done 0; threads = s; barriers = stored b (record { count = count }) bs } in
        let full = barrier.unchanged (result.Done EAGAIN) s bs in
        let none = barrier.unchanged (result.Done EINVAL) s bs in
        split of_barriers _ (barrier.unchanged (result.Done EBUSY) s bs) (cond (count == 0) none (cond (barrier.is_full b bs) full new)) r
        (split of_barriers _ none (cond (barrier.is_full b bs) full new) r (split of_barriers _ full new r r))

    barrier_destroy : (b : ℕ) → Stands q hart size (barrier.destroy_row b s bs).threads
    barrier_destroy b =
        let none = barrier.unchanged (result.Done EINVAL) s bs in
        let gone : barrier.After = record { result = result.Done 0; threads = s; barriers = removed b bs } in
        split of_barriers _ (barrier.unchanged (result.Done EBUSY) s bs) (cond (not (has_entry b bs)) none gone) r (split of_barriers _ none gone r r)

    barrier_wait : (t b : ℕ) → (q == t) ≡ false → Stands q hart size (barrier.wait_row t b s bs).threads
    barrier_wait t b n = at (lookup b bs)
      where
        at : (o : Option Barrier) → Stands q hart size (barrier.wait_at o t b s bs).threads
        at None = r
        at (Some x) =
            split of_barriers _ (record { result = result.Done barrier.SERIAL_THREAD; threads = threads.all_woken 0 (barrier.waiters b s) s; barriers = bs }) (record { result = result.Blocked; threads = threads.blocked t (reason.Barrier b) None s; barriers = bs })
            (all_woken 0 (barrier.waiters b s) s r) (blocked t (reason.Barrier b) None s n r)

  -- READ-WRITE LOCKS

  abbrev of_locks : rwlock.After → threads.State
  of_locks r = r.threads

  module _ (s : threads.State) (ls : List (Entry RwLock)) (r : Stands q hart size s) where
    rdlock : (t a : ℕ) → (q == t) ≡ false → Stands q hart size (rwlock.rdlock_row t a s ls).threads
    rdlock t a n =
        let l = lock_at a ls in
        let again = rwlock.unchanged (result.Done EAGAIN) s ls in
        let reads = rwlock.reading l t a s ls in
        let waits = rwlock.waiting (reason.Read a) t s ls in
        let first = cond (is_written l || rwlock.is_awaited a s) waits reads in
        let new = cond (rwlock.is_full a s ls) again first in
        split of_locks _ (rwlock.unchanged (result.Done EDEADLK) s ls) (cond (is_reader t l) (rwlock.reading_again l t a s ls) new) r
        (split of_locks _ (rwlock.reading_again l t a s ls) new (split of_locks _ again reads r r)
        (split of_locks _ again first r (split of_locks _ waits reads (blocked t (reason.Read a) None s n r) r)))

    wrlock : (t a : ℕ) → (q == t) ≡ false → Stands q hart size (rwlock.wrlock_row t a s ls).threads
    wrlock t a n =
        let l = lock_at a ls in
        let again = rwlock.unchanged (result.Done EAGAIN) s ls in
        let writes = rwlock.changed (with_writer (Some t) l) a s ls in
        let waits = rwlock.waiting (reason.Write a) t s ls in
        let new = cond (is_held l) waits writes in
        split of_locks _ (rwlock.unchanged (result.Done EDEADLK) s ls) (cond (rwlock.is_full a s ls) again new) r
        (split of_locks _ again new r (split of_locks _ waits writes (blocked t (reason.Write a) None s n r) r))

    or_busy : (x : rwlock.After) → Stands q hart size x.threads → Stands q hart size (rwlock.or_busy x s ls).threads
    or_busy x i = split of_locks _ x (rwlock.unchanged (result.Done EBUSY) s ls) i r

    rwlock_unlock : (t a : ℕ) → Stands q hart size (rwlock.unlock_row t a s ls).threads
    rwlock_unlock t a =
        split of_locks _ (rwlock.unchanged (result.Done EPERM) s ls) (rwlock.released (given_up t (lock_at a ls)) a s ls) r
        (grants (rwlock.rwlock_rule a) _ (given_up t (lock_at a ls)) s r)

  -- CANCELLATION

  pub acts : (t : ℕ) (s : threads.State) → (q == t) ≡ false → Stands q hart size s → Stands q hart size (cancel.act_on_request t s)
  acts t s n r = next_handler t n (cancel.cancelled t s) (changed _ t s r)

  pub unwinds : (t v : ℕ) (s : threads.State) → (q == t) ≡ false → Stands q hart size s → Stands q hart size (cancel.begin_unwind t v s)
  unwinds t v s n r = next_handler t n (cancel.unwinding_from t v s) (changed _ t s r)

  request_while : (why : Reason) (t : ℕ) (s : threads.State) (ms : List (Entry Mutex)) → (q == t) ≡ false → Stands q hart size s → Stands q hart size (cancel.request_while why t s ms).threads
  request_while reason.Input t s ms n r = acts t (threads.unwaited t s) n (unwaited t s r)
  request_while reason.Sleep t s ms n r = acts t (threads.unwaited t s) n (unwaited t s r)
  request_while (reason.Join j) t s ms n r = acts t (threads.unwaited t s) n (unwaited t s r)
  request_while (reason.Condition c a) t s ms n r = resumed t a retake.Unwind (cancel.cancelled t s) ms n (changed _ t s r)
  request_while (reason.Lock a) t s ms n r = changed _ t s r
  request_while (reason.Retake a how) t s ms n r = changed _ t s r
  request_while (reason.Barrier b) t s ms n r = changed _ t s r
  request_while (reason.Read l) t s ms n r = changed _ t s r
  request_while (reason.Write l) t s ms n r = changed _ t s r

  -- a request for itself, which waits for nothing, is left to it
  request_in : (w : Option Wait) (t : ℕ) (s : threads.State) (ms : List (Entry Mutex)) → ((w ≡ None) ⊎ ((q == t) ≡ false)) → Stands q hart size s → Stands q hart size (cancel.request_in w t s ms).threads
  request_in None t s ms how r = changed _ t s r
  request_in (Some w) t s ms (inl e) r = absurd (cc)
  request_in (Some w) t s ms (inr n) r = request_while w.reason t s ms n r

  none_or_other : (t : ℕ) (s : threads.State) → Stands q hart size s → (find (is_of t) s.waits ≡ None) ⊎ ((q == t) ≡ false)
  none_or_other t s r = by_test (q == t) refl
    where
      by_test : (b : Bool) → (q == t) ≡ b → (find (is_of t) s.waits ≡ None) ⊎ ((q == t) ≡ false)
      by_test false n = inr n
      by_test true e = let same : q ≡ t = grind (arith, nat_tests) in inl (subst (λ k. find (is_of k) s.waits ≡ None) same (none_found (is_of q) s.waits r.waits))

  request : (id : ℕ) (s : threads.State) (ms : List (Entry Mutex)) → Stands q hart size s → Stands q hart size (cancel.request_row id s ms).threads
  request id s ms r = at (threads.thread_of s id)
    where
      at : (o : Option Thread) → Stands q hart size (cancel.request_for o id s ms).threads
      at None = r
      at (Some (thread.Ended v)) = r
      at (Some (thread.Live l)) =
          split of_mutexes l.cancellation.is_enabled (cancel.request_in (find (is_of id) s.waits) id s ms) (cancel.left_pending id s ms)
          (request_in (find (is_of id) s.waits) id s ms (none_or_other id s r) r) (changed _ id s r)

  -- THREADS

  abbrev of_threads : rows.After → threads.State
  of_threads r = r.threads

  -- an ended thread is another
  ended_other : (t v : ℕ) (s : threads.State) → threads.thread_of s t ≡ Some (thread.Ended v) → Stands q hart size s → (q == t) ≡ false
  ended_other t v s is r = by_test (q == t) refl
    where
      by_test : (b : Bool) → (q == t) ≡ b → (q == t) ≡ false
      by_test false n = n
      by_test true e =
          let same : q ≡ t = grind (arith, nat_tests) in
          let live = subst (λ k. threads.is_live_thread (threads.thread_of s k) ≡ true) same r.live in
          let ended = subst (λ o. threads.is_live_thread o ≡ true) is live in
          absurd (cc)

  create : (by start arg sp detached : ℕ) (s : threads.State) → Stands q hart size s → Stands q hart size (rows.create_row by start arg sp detached s).threads
  create by start arg sp detached s r = split of_threads _ (rows.unchanged (result.Done EINVAL) s) (rows.create_at (threads.free_place s) by start arg sp (detached == 1) s) r (at (threads.free_place s))
    where
      at : (i : Option ℕ) → Stands q hart size (rows.create_at i by start arg sp (detached == 1) s).threads
      at None = r
      at (Some i) = changed _ by (threads.with_slot (i + 1) (Some (rows.new_thread start arg sp (detached == 1))) s) (slot_begun (i + 1) _ s r)

  join : (by id : ℕ) (s : threads.State) → (q == by) ≡ false → Stands q hart size s → Stands q hart size (rows.join_row by id s).threads
  join by id s n r = split of_threads _ (rows.unchanged (result.Done EDEADLK) s) (rows.join_at (threads.thread_of s id) by id s) r (at (threads.thread_of s id) refl)
    where
      at : (o : Option Thread) → threads.thread_of s id ≡ o → Stands q hart size (rows.join_at o by id s).threads
      at None is = r
      at (Some (thread.Ended v)) is = changed _ by (threads.with_slot id None s) (slot_set id None s (ended_other id v s is r) r)
      at (Some (thread.Live l)) is =
          split of_threads _ (rows.unchanged (result.Done EINVAL) s) (record { result = result.Blocked; threads = threads.blocked by (reason.Join id) None s }) r (blocked by (reason.Join id) None s n r)

  detach : (id : ℕ) (s : threads.State) → Stands q hart size s → Stands q hart size (rows.detach_row id s).threads
  detach id s r = at (threads.thread_of s id) refl
    where
      at : (o : Option Thread) → threads.thread_of s id ≡ o → Stands q hart size (rows.detach_at o id s).threads
      at None is = r
      at (Some (thread.Ended v)) is = slot_set id None s (ended_other id v s is r) r
      at (Some (thread.Live l)) is =
          split of_threads _ (rows.unchanged (result.Done EINVAL) s) (record { result = result.Done 0; threads = record s { threads = threads.change_thread rows.detached id s.threads } }) r (changed rows.detached id s r)

  -- CALLS of another thread

  abbrev of_tables : calls.After → threads.State
  of_tables r = r.tables.threads

  module _ (t : ℕ) (other : (q == t) ≡ false) where
    getc : (bytes : List ℕ) (s : Tables) → Stands q hart size s.threads → Stands q hart size (calls.getc_of bytes t s).tables.threads
    getc [] s r = split of_tables s.closed (calls.done calls.END_OF_INPUT s) (calls.waits t reason.Input None s) r (blocked t reason.Input None s.threads other r)
    getc (b ∷ bs) s r = r

    process_row : (c : ProcessCall) (x : Registers) (s : Tables) → Stands q hart size s.threads → Stands q hart size (calls.process_row c t x s).tables.threads
    process_row process_call.Exit x s r = r
    process_row process_call.Putc x s r = r
    process_row process_call.Getc x s r = getc s.input s r
    process_row process_call.Clock x s r = changed _ t s.threads r
    process_row process_call.SleepUntil x s r =
        let moment = calls.moment_of (get x 10) (get x 11) in
        let waits = calls.waits t reason.Sleep (Some moment) s in
        split of_tables _ (calls.done EINVAL s) (cond (nat_le moment s.clock) (calls.done 0 s) waits) r
        (split of_tables _ (calls.done 0 s) waits r (blocked t reason.Sleep (Some moment) s.threads other r))

    thread_row : (c : ThreadCall) (x : Registers) (s : Tables) → Stands q hart size s.threads → Stands q hart size (calls.thread_row c t x s).tables.threads
    thread_row thread_call.Create x s r = create t (get x 10) (get x 11) (get x 12) (get x 13) s.threads r
    thread_row thread_call.Join x s r = join t (get x 10) s.threads other r
    thread_row thread_call.Detach x s r = detach (get x 10) s.threads r
    thread_row thread_call.Exit x s r = unwinds t (get x 10) s.threads other r
    thread_row thread_call.SelfId x s r = r

    mutex_row : (c : MutexCall) (x : Registers) (s : Tables) → Stands q hart size s.threads → Stands q hart size (calls.mutex_row c t x s).tables.threads
    mutex_row mutex_call.Init x s r = init_kind s.threads s.mutexes r (mutex.kind_of (get x 11)) (get x 10)
    mutex_row mutex_call.Destroy x s r = destroy s.threads s.mutexes r (get x 10)
    mutex_row mutex_call.Lock x s r = lock s.threads s.mutexes r t (get x 10) other
    mutex_row mutex_call.TryLock x s r = trylock s.threads s.mutexes r t (get x 10)
    mutex_row mutex_call.TimedLock x s r = timedlock s.threads s.mutexes r t (get x 10) _ s.clock other
    mutex_row mutex_call.Unlock x s r = unlock s.threads s.mutexes r t (get x 10)

    condition_row : (c : ConditionCall) (x : Registers) (s : Tables) → Stands q hart size s.threads → Stands q hart size (calls.condition_row c t x s).tables.threads
    condition_row condition_call.Init x s r = split of_mutexes _ (mutex.unchanged (result.Done EBUSY) s.threads s.mutexes) (mutex.unchanged (result.Done 0) s.threads s.mutexes) r r
    condition_row condition_call.Destroy x s r = split of_mutexes _ (mutex.unchanged (result.Done EBUSY) s.threads s.mutexes) (mutex.unchanged (result.Done 0) s.threads s.mutexes) r r
    condition_row condition_call.Wait x s r = condition_wait t (get x 10) (get x 11) s.threads s.mutexes other r
    condition_row condition_call.TimedWait x s r = timedwait t (get x 10) (get x 11) _ s.clock s.threads s.mutexes other r
    condition_row condition_call.Signal x s r =
        let ws = condition.waiters (get x 10) s.threads in
        signalled (take 1 ws) s.threads s.mutexes (none_taken (is_of q) 1 ws (no_waiter (object.Condition (get x 10)) s.threads r)) r
    condition_row condition_call.Broadcast x s r =
        signalled (condition.waiters (get x 10) s.threads) s.threads s.mutexes (no_waiter (object.Condition (get x 10)) s.threads r) r

    barrier_row : (c : BarrierCall) (x : Registers) (s : Tables) → Stands q hart size s.threads → Stands q hart size (calls.barrier_row c t x s).tables.threads
    barrier_row barrier_call.Init x s r = barrier_init s.threads s.barriers r (get x 10) (get x 11)
    barrier_row barrier_call.Destroy x s r = barrier_destroy s.threads s.barriers r (get x 10)
    barrier_row barrier_call.Wait x s r = barrier_wait s.threads s.barriers r t (get x 10) other

    rwlock_row : (c : RwLockCall) (x : Registers) (s : Tables) → Stands q hart size s.threads → Stands q hart size (calls.rwlock_row c t x s).tables.threads
    rwlock_row rwlock_call.Init x s r = r
    rwlock_row rwlock_call.Destroy x s r = r
    rwlock_row rwlock_call.RdLock x s r = rdlock s.threads s.rwlocks r t (get x 10) other
    rwlock_row rwlock_call.TryRdLock x s r = or_busy s.threads s.rwlocks r (rwlock.rdlock_row t (get x 10) s.threads s.rwlocks) (rdlock s.threads s.rwlocks r t (get x 10) other)
    rwlock_row rwlock_call.WrLock x s r = wrlock s.threads s.rwlocks r t (get x 10) other
    rwlock_row rwlock_call.TryWrLock x s r = or_busy s.threads s.rwlocks r (rwlock.wrlock_row t (get x 10) s.threads s.rwlocks) (wrlock s.threads s.rwlocks r t (get x 10) other)
    rwlock_row rwlock_call.Unlock x s r = rwlock_unlock s.threads s.rwlocks r t (get x 10)

    popped : (h : Option Handler) (execute back : ℕ) (s : threads.State) → Stands q hart size s → Stands q hart size (cancel.pop_of h t execute back s).threads
    popped None execute back s r = r
    popped (Some h) execute back s r =
        split of_threads _ (record { result = result.Done 0; threads = unwinding.popped (Some h) t s }) (record { result = result.Moved; threads = unwinding.entered back h t (unwinding.popped (Some h) t s) })
        (changed _ t s r) (changed _ t (unwinding.popped (Some h) t s) (changed _ t s r))

    cancellation_row : (c : CancellationCall) (x : Registers) (s : Tables) → Stands q hart size s.threads → Stands q hart size (calls.cancellation_row c t x s).tables.threads
    cancellation_row cancellation_call.Cancel x s r = request (get x 10) s.threads s.mutexes r
    cancellation_row cancellation_call.TestCancel x s r = r
    cancellation_row cancellation_call.SetCancelState x s r =
        split of_threads _ (rows.unchanged (result.Done EINVAL) s.threads) (cancel.set_to _ _ t s.threads) r (changed _ t _ (changed _ t s.threads r))
    cancellation_row cancellation_call.SetCancelType x s r =
        split of_threads _ (rows.unchanged (result.Done EINVAL) s.threads) (cancel.set_to _ _ t s.threads) r (changed _ t _ (changed _ t s.threads r))
    cancellation_row cancellation_call.CleanupPush x s r =
        let again = rows.unchanged (result.Done EAGAIN) s.threads in
        let more : rows.After = record { result = result.Done 0; threads = unwinding.pushed (record { routine = get x 10; argument = get x 11 }) t s.threads } in
        split of_threads _ (rows.unchanged (result.Done EINVAL) s.threads) (cond _ again more) r (split of_threads _ again more r (changed _ t s.threads r))
    cancellation_row cancellation_call.CleanupPop x s r = popped (unwinding.newest_handler t s.threads) (get x 10) x.pc s.threads r

    created : (o : Option ℕ) (d : ℕ) (s : threads.State) → Stands q hart size s → Stands q hart size (keys.key_created o t d s).threads
    created None d s r = r
    created (Some k) d s r = changed _ t (with_key_of k d s) (record { live = r.live; waits = r.waits; harts = r.harts; room = r.room })

    if_key : (k : ℕ) (s : threads.State) (y : rows.After) → Stands q hart size s → Stands q hart size y.threads → Stands q hart size (keys.if_on s (keys.if_key k s y)).threads
    if_key k s y r i =
        split of_threads s.keys.is_on (keys.if_key k s y) (rows.unchanged (result.Done ENOSYS) s)
        (split of_threads (is_key s.keys k) y (rows.unchanged (result.Done EINVAL) s) i r) r

    key_row : (c : KeyCall) (x : Registers) (s : Tables) → Stands q hart size s.threads → Stands q hart size (calls.key_row c t x s).tables.threads
    key_row key_call.Create x s r =
        let z = s.threads in
        let made = keys.key_created (free_key z.keys) t (get x 10) z in
        split of_threads z.keys.is_on (cond (not (get x 10 % 4 == 0)) (rows.unchanged (result.Done EINVAL) z) made) (rows.unchanged (result.Done ENOSYS) z)
        (split of_threads (not (get x 10 % 4 == 0)) (rows.unchanged (result.Done EINVAL) z) made r (created (free_key z.keys) (get x 10) z r)) r
    key_row key_call.Delete x s r =
        if_key (get x 10) s.threads (record { result = result.Done 0; threads = without_key_of (get x 10) s.threads }) r
        (record { live = all_changed _ s.threads.threads q ∙ r.live; waits = r.waits; harts = r.harts; room = r.room })
    key_row key_call.SetSpecific x s r = if_key (get x 10) s.threads (record { result = result.Done 0; threads = with_value_of t (get x 10) (get x 11) s.threads }) r (changed _ t s.threads r)
    key_row key_call.GetSpecific x s r = if_key (get x 10) s.threads (record { result = result.Done 0; threads = threads.set_word t A1 (value_of t (get x 10) s.threads) s.threads }) r (changed _ t s.threads r)

    row : (c : Call) (x : Registers) (s : Tables) → Stands q hart size s.threads → Stands q hart size (calls.row c t x s).tables.threads
    row (call.Process c) x s r = process_row c x s r
    row (call.Thread c) x s r = thread_row c x s r
    row (call.Mutex c) x s r = mutex_row c x s r
    row (call.Condition c) x s r = condition_row c x s r
    row (call.Barrier c) x s r = barrier_row c x s r
    row (call.RwLock c) x s r = rwlock_row c x s r
    row (call.Cancellation c) x s r = cancellation_row c x s r
    row (call.Key c) x s r = key_row c x s r

    or_unknown : (c : Option Call) (x : Registers) (s : Tables) → Stands q hart size s.threads → Stands q hart size (calls.row_or_unknown c t x s).tables.threads
    or_unknown None x s r = r
    or_unknown (Some c) x s r = split of_tables (calls.acts_at c t s) (calls.acted_at t s) (calls.row c t x s) (acts t s.threads other r) (row c x s r)

    pub called_with : (x : Option Registers) (s : Tables) → Stands q hart size s.threads → Stands q hart size (calls.called_with x t s).tables.threads
    called_with None s r = r
    called_with (Some x) s r = or_unknown (calls.call_of (get x 17)) x s r
