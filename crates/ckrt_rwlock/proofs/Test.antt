-- The test of each wait says that threads and locks are well-formed together: at other addresses nobody waits.
use Rattle.std.proofs.Common.{◌≡◌, ℕ, nat_le, Bool, true, false, not, ◌&&◌, List, [], ◌∷◌, Option, Some, None, refl, ap, arith}
use Rattle.std.specs.List.{list_all, list_any}
use Rattle.std.proofs.lemmas.Bool.Decides.{nat_tests}
use Rattle.ckrt_thread.specs.declared.records.Wait.{Wait}
use Rattle.ckrt_thread.specs.declared.records.Reason.{Reason}
use Rattle.ckrt_thread.specs.declared.records.Reason.TheVariants as reason
use Rattle.ckrt_thread.specs.declared.records.Object.TheVariants as object
use Rattle.ckrt_thread.specs.Waits.{is_for, is_reason_for, is_of}
use Rattle.ckrt_thread.specs.State.{State, first_waiter}
use Rattle.ckrt_thread.specs.Granting.{has_admissible_waiter, is_first_admissible}
use Rattle.ckrt_objects.specs.declared.address_map.Entry.{Entry}
use Rattle.ckrt_objects.proofs.Waits.{found_holds, found_all}
use Rattle.ckrt_rwlock.specs.declared.records.RwLock.{RwLock}
use Rattle.ckrt_rwlock.specs.RwLock.{is_holder, lock_at, IsTable}
use Rattle.ckrt_rwlock.specs.Rows.{named, lock_of, rwlock_rule, used_count}
use Rattle.ckrt_rwlock.specs.WellFormed.{may_wait, IsWellFormedWith}

-- who waits for a lock names it
names_its_lock : (a : ℕ) (r : Reason) → is_reason_for (object.RwLock a) r ≡ true → lock_of r ≡ Some a
names_its_lock a (reason.Read b) h = (let same : a ≡ b = grind (arith, nat_tests, h) in rw same refl)
names_its_lock a (reason.Write b) h = (let same : a ≡ b = grind (arith, nat_tests, h) in rw same refl)
names_its_lock a reason.Input h = absurd (cc)
names_its_lock a reason.Sleep h = absurd (cc)
names_its_lock a (reason.Join i) h = absurd (cc)
names_its_lock a (reason.Lock m) h = absurd (cc)
names_its_lock a (reason.Retake m v) h = absurd (cc)
names_its_lock a (reason.Condition c m) h = absurd (cc)
names_its_lock a (reason.Barrier b) h = absurd (cc)

-- WHAT A TEST OF EACH WAIT SAYS of all addresses, for who holds what and which first waiters are admissible

module _ (holds : ℕ → ℕ → Bool) (admissible : ℕ → Bool) where
  abbrev passes_at : ℕ → Option ℕ → Bool
  passes_at t None = true
  passes_at t (Some a) = not (holds t a) && not (admissible a)

  abbrev passes : Wait → Bool
  passes w = passes_at w.thread (named w)

  at_its_lock : (a : ℕ) (w : Wait) → is_for (object.RwLock a) w ≡ true → passes w ≡ true → (holds w.thread a ≡ false) × (admissible a ≡ false)
  at_its_lock a w h p =
      let e = ap (passes_at w.thread) (names_its_lock a w.reason h) in
      (grind (arith, nat_tests, e, p), grind (arith, nat_tests, e, p))

  here_or_there : (a t : ℕ) (v : Wait) (ws : List Wait) → passes v ≡ true → (list_any (λ w. is_of t w && is_for (object.RwLock a) w) ws ≡ true → holds t a ≡ false)
      → list_any (λ w. is_of t w && is_for (object.RwLock a) w) (v ∷ ws) ≡ true → holds t a ≡ false
  here_or_there a t v ws p more w =
      elim (is_of t v && is_for (object.RwLock a) v) as (λ b. (is_of t v && is_for (object.RwLock a) v) ≡ b → holds t a ≡ false) [
        | true ↦ λ e.
            let own : t ≡ v.thread = grind (arith, nat_tests, e) in
            let here : is_for (object.RwLock a) v ≡ true = grind (arith, nat_tests, e) in
            rw own (at_its_lock a v here p).0
        | false ↦ λ e. more (grind (arith, nat_tests, e, w))
      ] refl

  apart : (a t : ℕ) (ws : List Wait) → list_all passes ws ≡ true → list_any (λ w. is_of t w && is_for (object.RwLock a) w) ws ≡ true → holds t a ≡ false
  apart a t [] h w = absurd (cc)
  apart a t (v ∷ ws) h w = here_or_there a t v ws (grind (arith, nat_tests, h)) (apart a t ws (grind (arith, nat_tests, h))) w

  -- and back

  passes_reason : (t : ℕ) (r : Reason) → ((a : ℕ) → is_reason_for (object.RwLock a) r ≡ true → holds t a ≡ false) → ((a : ℕ) → admissible a ≡ false) → passes_at t (lock_of r) ≡ true
  passes_reason t (reason.Read b) f g = (let h = f b (grind (arith, nat_tests)) in let n = g b in grind (arith, nat_tests, h, n))
  passes_reason t (reason.Write b) f g = (let h = f b (grind (arith, nat_tests)) in let n = g b in grind (arith, nat_tests, h, n))
  passes_reason t reason.Input f g = refl
  passes_reason t reason.Sleep f g = refl
  passes_reason t (reason.Join i) f g = refl
  passes_reason t (reason.Lock m) f g = refl
  passes_reason t (reason.Retake m v) f g = refl
  passes_reason t (reason.Condition c m) f g = refl
  passes_reason t (reason.Barrier b) f g = refl

  all_pass : (ws : List Wait) → ((a t : ℕ) → list_any (λ w. is_of t w && is_for (object.RwLock a) w) ws ≡ true → holds t a ≡ false) → ((a : ℕ) → admissible a ≡ false) → list_all passes ws ≡ true
  all_pass [] f g = refl
  all_pass (v ∷ ws) f g =
      let first : passes v ≡ true = passes_reason v.thread v.reason (λ a h. f a v.thread (grind (arith, nat_tests, h))) g in
      let rest = all_pass ws (λ a t w. f a t (grind (arith, nat_tests, w))) g in
      grind (arith, nat_tests, first, rest)

module _ (s : State) (ls : List (Entry RwLock)) where
  abbrev holds_at : ℕ → ℕ → Bool
  holds_at t a = is_holder t (lock_at a ls)

  abbrev admissible_at : ℕ → Bool
  admissible_at a = has_admissible_waiter (rwlock_rule a) (lock_at a ls, s)

  none_first : (a : ℕ) (o : Option Wait) → first_waiter (object.RwLock a) s ≡ o → list_all (may_wait s ls) s.waits ≡ true → admissible_at a ≡ false
  none_first a None e h = ap (λ o. is_first_admissible (rwlock_rule a) o (lock_at a ls)) e
  none_first a (Some w) e h =
      (at_its_lock holds_at admissible_at a w (found_holds (is_for (object.RwLock a)) s.waits w e) (found_all (is_for (object.RwLock a)) (may_wait s ls) s.waits w e h)).1

  pub tested : IsTable ls → nat_le (used_count s ls) 64 ≡ true → list_all (may_wait s ls) s.waits ≡ true → IsWellFormedWith s ls
  tested t few h = record {
    table = t;
    at_most_64_in_use = grind (arith, nat_tests, few);
    no_waiter_holds = (λ a u w. apart holds_at admissible_at a u s.waits h w);
    no_first_waiter_is_admissible = (λ a. none_first a (first_waiter (object.RwLock a) s) refl h);
  }

  pub all_may_wait : IsWellFormedWith s ls → list_all (may_wait s ls) s.waits ≡ true
  all_may_wait h = all_pass holds_at admissible_at s.waits h.no_waiter_holds h.no_first_waiter_is_admissible
