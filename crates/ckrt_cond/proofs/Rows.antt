-- How a wait at a condition ends: what its thread counts on to retake its mutex, and what is left of the queue.
use Rattle.std.proofs.Common.{◌≡◌, ℕ, eqb-true, Bool, true, false, ◌&&◌, List, ◌∷◌, slice_get, Some, None, refl, sym, ap, subst, ◌∙◌, arith}
use Rattle.std.specs.List.{find, filter}
use Rattle.std.proofs.lemmas.Bool.Decides.{nat_tests}
use Rattle.ckrt_thread.specs.declared.records.Wait.{Wait}
use Rattle.ckrt_thread.specs.declared.records.Reason.{Reason}
use Rattle.ckrt_thread.specs.declared.records.Reason.TheVariants as reason
use Rattle.ckrt_thread.specs.declared.records.Object.TheVariants as object
use Rattle.ckrt_thread.specs.declared.records.RetakeResult.{RetakeResult}
use Rattle.ckrt_thread.specs.declared.records.RetakeResult.TheVariants as retake
use Rattle.ckrt_thread.specs.declared.records.CallResult.TheVariants.{Done}
use Rattle.ckrt_thread.specs.Waits.{is_of, is_for, retake_code}
use Rattle.ckrt_thread.specs.State as threads
use Rattle.ckrt_thread.specs.State.{State, is_live, is_waiting, first_waiter, unwaited}
use Rattle.ckrt_thread.specs.Granting.{answered}
use Rattle.ckrt_thread.proofs.Changes.{well_formed_without}
use Rattle.ckrt_thread.proofs.Grants.{first_of_queue, queue_rest}
use Rattle.ckrt_thread.proofs.Known.{waiting_live, waits_at_most_once}
use Rattle.ckrt_thread.proofs.WaitLemmas.{gone}
use Rattle.ckrt_objects.specs.declared.address_map.Entry.{Entry}
use Rattle.ckrt_mutex.specs.declared.records.Mutex.{Mutex}
use Rattle.ckrt_mutex.specs.Mutex.{is_available, mutex_at}
use Rattle.ckrt_mutex.specs.Rows.{After, named, unchanged, is_full, retake_row}
use Rattle.ckrt_mutex.specs.WellFormed.{IsWellFormedWith, can_retake}
use Rattle.ckrt_objects.proofs.Changes.{not_full_after}
use Rattle.ckrt_objects.proofs.Obtained.{PassesNoJoiner, among_answered, queue_answered}
use Rattle.ckrt_objects.proofs.Waits.{either, found, found_any, found_holds, queue_other, any_among}
use Rattle.ckrt_mutex.proofs.WellFormed.{can_retake_after}
use Rattle.ckrt_cond.specs.Rows.{waiters, resume_row, signal_row}
use Rattle.ckrt_cond.specs.WellFormed.{IsWellFormed, is_at_condition_with, may_resume}
use Rattle.ckrt_cond.proofs.Waits.{at_condition, join_not_condition, no_waiters, conditions_fewer, conditions_unwaited, conditions_other}

-- RETAKE begins no wait at a condition, and ends none

pub conditions_retake : (t a : ℕ) (r : RetakeResult) (s : State) (ms : List (Entry Mutex)) → IsWellFormed s → IsWellFormed (retake_row t a r s ms).threads
conditions_retake t a r s ms h =
    either {X = After} (λ x. IsWellFormed x.threads) (is_available t (mutex_at a ms)) _ _
    (λ _. let z = answered (retake_code r) t s in conditions_fewer s z (any_among z.waits s.waits (among_answered (retake_code r) t s)) h)
    (λ _. conditions_other t (reason.Retake a r) None s (λ c b. refl) h)

-- a queue in which nobody waits to retake a mutex, or joins a thread, is the same
pub retake_elsewhere : (p : Wait → Bool) → ((t a : ℕ) (r : RetakeResult) → p (record { thread = t; reason = reason.Retake a r; deadline = None }) ≡ false) → PassesNoJoiner p
    → (t a : ℕ) (r : RetakeResult) (s : State) (ms : List (Entry Mutex)) → threads.IsWellFormed s → filter p (retake_row t a r s ms).threads.waits ≡ filter p s.waits
retake_elsewhere p retaking joins t a r s ms k =
    either {X = After} (λ x. filter p x.threads.waits ≡ filter p s.waits) (is_available t (mutex_at a ms)) _ _
    (λ _. queue_answered p joins (retake_code r) t s k) (λ _. queue_other p s.waits (record { thread = t; reason = reason.Retake a r; deadline = None }) (retaking t a r))

joins_at_no_condition : (c : ℕ) → PassesNoJoiner (is_for (object.Condition c))
joins_at_no_condition c t w h = join_not_condition t c w.reason h

pub queue_retake : (c t a : ℕ) (r : RetakeResult) (s : State) (ms : List (Entry Mutex)) → threads.IsWellFormed s → waiters c (retake_row t a r s ms).threads ≡ waiters c s
queue_retake c t a r s ms k = retake_elsewhere (is_for (object.Condition c)) (λ t a r. refl) (joins_at_no_condition c) t a r s ms k

-- WHO MAY RESUME can retake its mutex, once its wait has been taken away

at_with : (a : ℕ) (r : Reason) → is_at_condition_with a r ≡ true → (b : ℕ) × (r ≡ reason.Condition b a)
at_with a (reason.Condition b m) h = (b, ap (λ e. reason.Condition b e) (sym (eqb-true a m h)))
at_with a reason.Input h = absurd (cc)
at_with a reason.Sleep h = absurd (cc)
at_with a (reason.Join i) h = absurd (cc)
at_with a (reason.Lock m) h = absurd (cc)
at_with a (reason.Retake m v) h = absurd (cc)
at_with a (reason.Barrier e) h = absurd (cc)
at_with a (reason.Read l) h = absurd (cc)
at_with a (reason.Write l) h = absurd (cc)

abbrev is_wait_of : ℕ → ℕ → Wait → Bool
is_wait_of t a w = is_of t w && is_at_condition_with a w.reason

-- the wait that ends
record Ending (t a : ℕ) (s : State) : Type 0 where
  wait : Wait
  at : ℕ
  first : find (is_wait_of t a) s.waits ≡ Some wait
  thread : t ≡ wait.thread
  why : wait.reason ≡ reason.Condition at a

ending : (t a : ℕ) (s : State) → may_resume t a s ≡ true → Ending t a s
ending t a s h =
    let f = found (is_wait_of t a) s.waits h in
    let r = at_with a f.0.reason (grind (arith, nat_tests, f.1.1)) in
    record { wait = f.0; at = r.0; first = f.1.0; thread = eqb-true t f.0.thread (grind (arith, nat_tests, f.1.1)); why = r.1 }

module _ (t a : ℕ) (s : State) (may : may_resume t a s ≡ true) where
  resume_waiting : is_waiting s t ≡ true
  resume_waiting = (let e = ending t a s may in found_any (is_wait_of t a) (is_of t) s.waits e.wait e.first (let x = e.thread in grind (arith, nat_tests, x)))

  pub resume_live : threads.IsWellFormed s → is_live (unwaited t s) t ≡ true
  resume_live k = waiting_live s t k resume_waiting

  pub resume_room : (ms : List (Entry Mutex)) → IsWellFormedWith s ms → is_full a (unwaited t s) ms ≡ false
  resume_room ms h =
      let e = ending t a s may in
      subst (λ u. is_full a (unwaited u s) ms ≡ false) (sym e.thread) (not_full_after named 256 a (is_wait_of t a) s.waits ms e.wait h.at_most_256_in_use e.first (rw e.why refl))

  pub resume_count : (ms : List (Entry Mutex)) → IsWellFormedWith s ms → can_retake t (mutex_at a ms) ≡ true
  resume_count ms h =
      let e = ending t a s may in
      subst (λ u. can_retake u (mutex_at a ms) ≡ true) (sym e.thread) (can_retake_after (is_wait_of t a) s ms e.wait a e.at h e.first e.why)

pub resume_free : (t : ℕ) (s : State) → threads.IsWellFormed s → is_waiting (unwaited t s) t ≡ false
resume_free t s k = gone t s.waits (waits_at_most_once s t k)

pub conditions_resume : (t a : ℕ) (r : RetakeResult) (s : State) (ms : List (Entry Mutex)) → IsWellFormed s → IsWellFormed (resume_row t a r s ms).threads
conditions_resume t a r s ms h = conditions_retake t a r (unwaited t s) ms (conditions_unwaited t s (unwaited t s) refl h)

-- THE FIRST WAITER IS WOKEN

pub first_may_resume : (c b a : ℕ) (s : State) (w : Wait) → first_waiter (object.Condition c) s ≡ Some w → w.reason ≡ reason.Condition b a → may_resume w.thread a s ≡ true
first_may_resume c b a s w e r = found_any (is_for (object.Condition c)) (is_wait_of w.thread a) s.waits w e (rw r (grind (arith, nat_tests)))

-- it is the head of the queue, and what is left is the queue after
pub queue_resumed : (c a : ℕ) (s : State) (ms : List (Entry Mutex)) (w : Wait) → threads.IsWellFormed s → first_waiter (object.Condition c) s ≡ Some w
    → waiters c s ≡ w ∷ waiters c (resume_row w.thread a retake.Done s ms).threads
queue_resumed c a s ms w k e =
    queue_rest (object.Condition c) s w 0 e k ∙ ap (λ l. w ∷ l) (sym (queue_retake c w.thread a retake.Done (unwaited w.thread s) ms (well_formed_without s w.thread k)))

pub is_first_condition : (c : ℕ) (s : State) (w : Wait) → first_waiter (object.Condition c) s ≡ Some w → (b : ℕ) × (w.reason ≡ reason.Condition c b)
is_first_condition c s w e = at_condition c w.reason (found_holds (is_for (object.Condition c)) s.waits w e)

-- the head of the queue is the first waiter
pub first_is : (c : ℕ) (s : State) (w : Wait) (ws : List Wait) → waiters c s ≡ w ∷ ws → first_waiter (object.Condition c) s ≡ Some w
first_is c s w ws e = first_of_queue (object.Condition c) s ∙ ap (λ l. slice_get l 0) e

-- THE ROW where nobody waits

pub signal_none : (c : ℕ) (s : State) (ms : List (Entry Mutex)) → first_waiter (object.Condition c) s ≡ None → signal_row c s ms ≡ unchanged (Done 0) s ms
signal_none c s ms e = rw (no_waiters c s e) refl
