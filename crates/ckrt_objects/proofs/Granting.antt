-- Granting, one waiter after another.
use Rattle.std.proofs.Common.{◌≡◌, ℕ, zero, suc, ◌+◌, ◌≤◌, ◌<◌, Bool, true, false, cond, length, Option, Some, None, refl, ap, ◌∙◌, arith}
use Rattle.std.specs.Prelude.{option_map}
use Rattle.std.specs.List.{filter}
use Rattle.ckrt_thread.specs.declared.records.Wait.{Wait}
use Rattle.ckrt_thread.specs.declared.records.Waiter.{Waiter}
use Rattle.ckrt_thread.specs.declared.records.Object.{Object}
use Rattle.ckrt_thread.specs.Abi.{A0}
use Rattle.ckrt_thread.specs.Waits.{is_for, is_of, without}
use Rattle.ckrt_thread.specs.State.{State, IsWellFormed, is_live, is_live_thread, is_waiting, first_waiter, first_unwaited, of_wait, of_waiter, woken, with_word}
use Rattle.ckrt_thread.specs.Granting.{GrantRule, answered, wait_result, obtained, grant, grant_up_to, grant_waiters}
use Rattle.ckrt_thread.proofs.Changes.{well_formed_without, well_formed_word}
use Rattle.ckrt_thread.proofs.Known.{found_range}
use Rattle.ckrt_thread.proofs.SlotLemmas.{kept_at, live_change}
use Rattle.ckrt_thread.proofs.Unwound.{well_formed_obtained}
use Rattle.ckrt_thread.proofs.WaitLemmas.{found_waits, length-without}
use Rattle.ckrt_thread.proofs.Waking.{taken_obtained}
use Rattle.ckrt_objects.proofs.Obtained.{among_obtained, queue_obtained, live_obtained, PassesNoJoiner}
use Rattle.ckrt_objects.proofs.Waits.{found_holds, IsAmong, none_among}

-- what the end of a wait with a result leaves of the threads
pub well_formed_woken : (t v : ℕ) (s : State) → IsWellFormed s → IsWellFormed (woken t v s)
well_formed_woken t v s h = well_formed_word (record s { waits = without t s.waits }) t A0 v (well_formed_without s t h)

pub live_woken : (t u v : ℕ) (s : State) → is_live s t ≡ true → is_live (woken u v s) t ≡ true
live_woken t u v s h = kept_at is_live_thread (with_word A0 v) s.threads u t (live_change (with_word A0 v)) ∙ h

-- the first who waits for an object is a thread
pub first_range : (o : Object) (s : State) (w : Wait) → IsWellFormed s → first_waiter o s ≡ Some w → (0 < w.thread) × (w.thread ≤ 64)
first_range o s w k e = rw e at (found_range s (is_for o) k)

-- who was taken out of an object's queue gets what its first waited for
pub taken_first : (o : Object) (s : State) (w : Wait) (x : Waiter) → first_waiter o s ≡ Some w → Some (of_waiter x) ≡ option_map of_wait (first_waiter o s)
    → answered (wait_result x.reason) x.thread (first_unwaited o s) ≡ obtained w s
taken_first o s w x e f =
    let same : Some (of_waiter x) ≡ option_map of_wait (Some w) = rw e at f in
    taken_obtained o x s (record { wait = w; first = e; who = (cc) })

module _ {O : Type 0} (rule : GrantRule O) where
  -- who is found in the object's queue waits
  first_waits : (s : State) (w : Wait) → first_waiter rule.object s ≡ Some w → is_waiting s w.thread ≡ true
  first_waits s w e = found_waits (is_for rule.object) s.waits w e

  -- nobody waits
  pub none_up_to : (n : ℕ) (o : O) (s : State) → first_waiter rule.object s ≡ None → grant_up_to rule n o s ≡ (o, s)
  none_up_to zero o s e = refl
  none_up_to (suc n) o s e = rw e refl

  -- the first who waits is not admissible
  pub stop_up_to : (n : ℕ) (o : O) (s : State) (w : Wait) → first_waiter rule.object s ≡ Some w → rule.is_admissible o w ≡ false → grant_up_to rule n o s ≡ (o, s)
  stop_up_to zero o s w e a = refl
  stop_up_to (suc n) o s w e a = rw (e, a) refl

  -- the first who waits is admissible
  pub step_up_to : (n : ℕ) (o : O) (s : State) (w : Wait) → first_waiter rule.object s ≡ Some w → rule.is_admissible o w ≡ true
      → grant_up_to rule (suc n) o s ≡ grant_up_to rule n (rule.granted o w) (obtained w s)
  step_up_to n o s w e a = rw (e, a) refl

  pub grants_none : (o : O) (s : State) → first_waiter rule.object s ≡ None → grant_waiters rule o s ≡ (o, s)
  grants_none o s e = none_up_to (length s.waits) o s e

  pub grants_stop : (o : O) (s : State) (w : Wait) → first_waiter rule.object s ≡ Some w → rule.is_admissible o w ≡ false → grant_waiters rule o s ≡ (o, s)
  grants_stop o s w e a = stop_up_to (length s.waits) o s w e a

  step_at : (n : ℕ) (o : O) (s : State) (w : Wait) → first_waiter rule.object s ≡ Some w → rule.is_admissible o w ≡ true → n + 1 ≡ length s.waits
      → grant_up_to rule (length s.waits) o s ≡ grant_up_to rule n (rule.granted o w) (obtained w s)
  step_at n o s w e a l =
      let m : length s.waits ≡ suc n = omega (arith, l) in
      ap (λ k. grant_up_to rule k o s) m ∙ step_up_to n o s w e a

  -- the first who waits is granted the object, and then its waiters are
  grants_step : (o : O) (s : State) (w : Wait) → first_waiter rule.object s ≡ Some w → rule.is_admissible o w ≡ true
      → grant_waiters rule o s ≡ grant_up_to rule (length (without w.thread s.waits)) (rule.granted o w) (obtained w s)
  grants_step o s w e a =
      step_at (length (without w.thread s.waits)) o s w e a (length-without w.thread s.waits (first_waits s w e))

  nobody_more : (n : ℕ) (o : O) (s : State) → ((w : Wait) → rule.is_admissible o w ≡ false) → (f : Option Wait) → first_waiter rule.object s ≡ f → grant_up_to rule n o s ≡ (o, s)
  nobody_more n o s never None e = none_up_to n o s e
  nobody_more n o s never (Some w) e = stop_up_to n o s w e (never w)

  -- the first who waits is granted the object, and nobody after it is admissible
  pub grants_first : (o : O) (s : State) (w : Wait) → first_waiter rule.object s ≡ Some w → rule.is_admissible o w ≡ true
      → ((v : Wait) → rule.is_admissible (rule.granted o w) v ≡ false) → grant_waiters rule o s ≡ (rule.granted o w, obtained w s)
  grants_first o s w e a never =
      grants_step o s w e a ∙ nobody_more (length (without w.thread s.waits)) (rule.granted o w) (obtained w s) never (first_waiter rule.object (obtained w s)) refl

  -- WHAT EACH GRANT KEEPS, granting keeps

  -- what a grant of the first who waits keeps
  abbrev pub IsKeptByGrants : (O → State → Type 0) → Type 0
  IsKeptByGrants P = (o : O) (s : State) (w : Wait) → P o s → first_waiter rule.object s ≡ Some w → rule.is_admissible o w ≡ true → P (rule.granted o w) (obtained w s)

  kept_case : (P : O → State → Type 0) → IsKeptByGrants P → (n : ℕ) (o : O) (s : State) (f : Option Wait) → first_waiter rule.object s ≡ f → P o s
      → ((q : O) (z : State) → P q z → P (grant_up_to rule n q z).0 (grant_up_to rule n q z).1)
      → P (grant rule (grant_up_to rule n) f o s).0 (grant rule (grant_up_to rule n) f o s).1
  kept_case P step n o s None e h more = h
  kept_case P step n o s (Some w) e h more =
      let next = rule.granted o w in
      let z = obtained w s in
      elim (rule.is_admissible o w) as (λ b. rule.is_admissible o w ≡ b → P (cond b (grant_up_to rule n next z) (o, s)).0 (cond b (grant_up_to rule n next z) (o, s)).1) [
        | true ↦ λ a. more next z (step o s w h e a)
        | false ↦ λ a. h
      ] refl

  kept_up_to : (P : O → State → Type 0) → IsKeptByGrants P → (n : ℕ) (o : O) (s : State) → P o s → P (grant_up_to rule n o s).0 (grant_up_to rule n o s).1
  kept_up_to P step zero o s h = h
  kept_up_to P step (suc n) o s h = kept_case P step n o s (first_waiter rule.object s) refl h (kept_up_to P step n)

  pub kept_by_granting : (P : O → State → Type 0) → IsKeptByGrants P → (o : O) (s : State) → P o s → P (grant_waiters rule o s).0 (grant_waiters rule o s).1
  kept_by_granting P step o s h = kept_up_to P step (length s.waits) o s h

  -- the threads stay well-formed
  pub well_formed_granted : (o : O) (s : State) → IsWellFormed s → IsWellFormed (grant_waiters rule o s).1
  well_formed_granted o s h = kept_by_granting (λ _ z. IsWellFormed z) (λ p z w k e _. well_formed_obtained w z k (first_waits z w e)) o s h

  -- no wait begins
  pub granted_among : (o : O) (s : State) → IsAmong (grant_waiters rule o s).1.waits s.waits
  granted_among o s =
      kept_by_granting (λ _ z. IsAmong z.waits s.waits) (λ p z w k _ _. λ f h. among_obtained w z f (k f h)) o s (λ f h. h)

  pub granted_free : (t : ℕ) (o : O) (s : State) → is_waiting s t ≡ false → is_waiting (grant_waiters rule o s).1 t ≡ false
  granted_free t o s h = none_among (grant_waiters rule o s).1.waits s.waits (granted_among o s) (is_of t) h

  -- who lives and does not wait goes on
  pub granted_live : (t : ℕ) (o : O) (s : State) → is_live s t ≡ true → is_waiting s t ≡ false → is_live (grant_waiters rule o s).1 t ≡ true
  granted_live t o s l n =
      let kept = kept_by_granting (λ _ z. (is_live z t ≡ true) × (is_waiting z t ≡ false))
      (λ p z w k e _. (live_obtained t w z k.0 k.1 (first_waits z w e), none_among (obtained w z).waits z.waits (among_obtained w z) (is_of t) k.1)) o s (l, n) in
      kept.0

  -- a queue in which nobody waits for the object, or joins a thread, is the same: so is each other object's
  pub granted_elsewhere : (p : Wait → Bool) → ((w : Wait) → is_for rule.object w ≡ true → p w ≡ false) → PassesNoJoiner p → (o : O) (s : State) → IsWellFormed s
      → filter p (grant_waiters rule o s).1.waits ≡ filter p s.waits
  granted_elsewhere p not_here joins o s h =
      let kept = kept_by_granting (λ _ z. IsWellFormed z × (filter p z.waits ≡ filter p s.waits))
      (λ q z w k e _. (
        well_formed_obtained w z k.0 (first_waits z w e),
        queue_obtained p joins (is_for rule.object) w z k.0 e (not_here w (found_holds (is_for rule.object) z.waits w e)) ∙ k.1,
      )) o s (h, refl) in
      kept.1
