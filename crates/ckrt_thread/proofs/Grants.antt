-- Queues and granting.
use Rattle.std.proofs.Common.{◌≡◌, ℕ, zero, suc, ◌≤◌, ◌<◌, Bool, true, false, cond, List, [], ◌∷◌, length, Option, Some, None, refl, arith, slice_get}
use Rattle.std.specs.List.{find, filter}
use Rattle.std.proofs.lemmas.Bool.Decides.{nat_tests}
use Rattle.ckrt_thread.specs.declared.records.Wait.{Wait}
use Rattle.ckrt_thread.specs.declared.records.Object.{Object}
use Rattle.ckrt_thread.specs.Waits.{is_for, is_of, without}
use Rattle.ckrt_thread.specs.State.{State, IsWellFormed, count_of, first_waiter, unwaited, woken}
use Rattle.ckrt_thread.specs.Granting.{GrantRule, queue_of, grant, grant_up_to, grant_waiters, has_admissible_waiter, is_first_admissible, wait_result, obtained}
use Rattle.ckrt_thread.proofs.Counting.{count_of_some}
use Rattle.ckrt_thread.proofs.WaitLemmas.{found_waits, length-without, length_fewer}
use Rattle.ckrt_thread.proofs.Unwound.{waits_answered}

find_first : (p : Wait → Bool) (ws : List Wait) → find p ws ≡ slice_get (filter p ws) 0
find_first p [] = refl
find_first p (w ∷ ws) = grind (arith, nat_tests, find_first p ws)

pub first_of_queue : (o : Object) (s : State) → first_waiter o s ≡ slice_get (queue_of o s) 0
first_of_queue o s = find_first (is_for o) s.waits

-- the rest of a queue, when its first has been taken out

queue_step : (p : Wait → Bool) (v w : Wait) (ws : List Wait) → find p (v ∷ ws) ≡ Some w → count_of (is_of w.thread) (v ∷ ws) ≤ 1 → (find p ws ≡ Some w → count_of (is_of w.thread) ws ≤ 1 → filter p ws ≡ w ∷ filter p (without w.thread ws)) → filter p (v ∷ ws) ≡ w ∷ filter p (without w.thread (v ∷ ws))
queue_step p v w ws e c i =
    let f = found_waits p ws w in
    let some = count_of_some (is_of w.thread) ws in
    grind (arith, nat_tests, f, some, i)

queue_from : (p : Wait → Bool) (ws : List Wait) (w : Wait) → find p ws ≡ Some w → count_of (is_of w.thread) ws ≤ 1 → filter p ws ≡ w ∷ filter p (without w.thread ws)
queue_from p [] w e c = absurd (cc)
queue_from p (v ∷ ws) w e c = queue_step p v w ws e c (queue_from p ws w)

no_queue : (p : Wait → Bool) (ws : List Wait) → find p ws ≡ None → filter p ws ≡ []
no_queue p [] e = refl
no_queue p (v ∷ ws) e = grind (arith, nat_tests, no_queue p ws)

pub queue_rest : (o : Object) (s : State) (w : Wait) (v : ℕ) → first_waiter o s ≡ Some w → IsWellFormed s → queue_of o s ≡ w ∷ queue_of o (woken w.thread v s)
queue_rest o s w v e h = queue_from (is_for o) s.waits w e (grind (arith, nat_tests, h.placed w.thread))

pub empty_queue : (o : Object) (s : State) → first_waiter o s ≡ None → queue_of o s ≡ []
empty_queue o s e = no_queue (is_for o) s.waits e

-- GRANTING ENDS ONLY WHERE THE FIRST WAITER IS NOT ADMISSIBLE

found_some : (p : Wait → Bool) (ws : List Wait) (w : Wait) → find p ws ≡ Some w → 0 < length ws
found_some p [] w e = absurd (cc)
found_some p (v ∷ ws) w e = omega arith

-- a grant takes one wait out, and perhaps that of who joins a thread that ended
fewer_waits : (t n : ℕ) (ws : List Wait) → length ws ≤ n → length (without t ws) ≤ n
fewer_waits t n ws l = (let f = length_fewer t ws in omega (arith, f, l))

granted_length : (o : Object) (s : State) (w : Wait) (n : ℕ) → first_waiter o s ≡ Some w → length s.waits ≤ suc n → length (obtained w s).waits ≤ n
granted_length o s w n e l =
    let f = length-without w.thread s.waits (found_waits (is_for o) s.waits w e) in
    let few : length (without w.thread s.waits) ≤ n = omega (arith, f, l) in
    waits_answered (λ ws. length ws ≤ n) (wait_result w.reason) w.thread (unwaited w.thread s) few (λ v _. fewer_waits v.thread n (without w.thread s.waits) few)

module _ {O : Type 0} (rule : GrantRule O) where
  granted_case : (n : ℕ) (o : O) (s : State) (f : Option Wait) → first_waiter rule.object s ≡ f → length s.waits ≤ suc n
      → ((p : O) (z : State) → length z.waits ≤ n → has_admissible_waiter rule (grant_up_to rule n p z) ≡ false)
      → has_admissible_waiter rule (grant rule (grant_up_to rule n) f o s) ≡ false
  granted_case n o s None e l more = rw e refl
  granted_case n o s (Some w) e l more =
      elim (rule.is_admissible o w) as (λ b. rule.is_admissible o w ≡ b → has_admissible_waiter rule (cond b (grant_up_to rule n (rule.granted o w) (obtained w s)) (o, s)) ≡ false) [
        | true ↦ λ _. more (rule.granted o w) (obtained w s) (granted_length rule.object s w n e l)
        | false ↦ λ a. rw e a
      ] refl

  granted_up_to : (n : ℕ) (o : O) (s : State) → length s.waits ≤ n → has_admissible_waiter rule (grant_up_to rule n o s) ≡ false
  granted_up_to zero o s l =
      elim (first_waiter rule.object s) as (λ f. first_waiter rule.object s ≡ f → is_first_admissible rule f o ≡ false) [
        | None ↦ λ e. refl
        | Some w ↦ λ e. absurd (let k = found_some (is_for rule.object) s.waits w e in omega (arith, k, l))
      ] refl
  granted_up_to (suc n) o s l = granted_case n o s (first_waiter rule.object s) refl l (granted_up_to n)

pub grants_every_admissible : {O : Type 0} (rule : GrantRule O) (o : O) (s : State) → has_admissible_waiter rule (grant_waiters rule o s) ≡ false
grants_every_admissible rule o s = granted_up_to rule (length s.waits) o s (omega arith)
