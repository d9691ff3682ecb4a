-- The search for a hart, that for a deadline, and that for the greatest ready thread.
use Rattle.std.proofs.Common.{◌≡◌, ℕ, zero, suc, ◌+◌, ◌-◌, ◌<◌, ◌≤◌, Bool, true, false, Option, Some, None, List, [], ◌∷◌, length, drop, get_or, ap, sym, arith, cond, refl}
use Rattle.std.proofs.lemmas.Bool.Decides.{nat_tests}
use Rattle.ckrt_thread.specs.declared.records.Wait.{Wait}
use Rattle.ckrt_thread.specs.State as threads
use Rattle.ckrt_calls.specs.declared.table.Tables.{Tables}
use Rattle.ckrt_schedule.specs.declared.schedule.Sought.{Sought}
use Rattle.ckrt_schedule.specs.Schedules.{greatest_ready, is_sought, sought_among, next_sought, sooner, earliest_deadline}

-- HARTS

module _ (k : Sought) (h : ℕ) (s : Tables) where
  step_of : (b : Bool) → h < s.threads.hart_count → is_sought k s h ≡ b → next_sought k h s ≡ cond b (Some h) (next_sought k (h + 1) s)
  step_of b l e =
      let left : s.threads.hart_count - h ≡ suc (s.threads.hart_count - (h + 1)) = omega arith in
      rw left (ap (λ x. cond x (Some h) (sought_among k (s.threads.hart_count - (h + 1)) (h + 1) s)) e)

  pub found : h < s.threads.hart_count → is_sought k s h ≡ true → next_sought k h s ≡ Some h
  found l e = step_of true l e

  pub passed : h < s.threads.hart_count → is_sought k s h ≡ false → next_sought k h s ≡ next_sought k (h + 1) s
  passed l e = step_of false l e

  pub none_left : s.threads.hart_count ≤ h → next_sought k h s ≡ None
  none_left l = let none : s.threads.hart_count - h ≡ 0 = omega arith in rw none refl

-- DEADLINES

drop_at : (ws : List Wait) (i : ℕ) (d : Wait) → i < length ws → drop i ws ≡ get_or ws i d ∷ drop (i + 1) ws
drop_at [] i d l = absurd (omega arith)
drop_at (w ∷ ws) zero d l = grind (arith, nat_tests)
drop_at (w ∷ ws) (suc i) d l = grind (arith, nat_tests, drop_at ws i d)

pub sooner_at : (ws : List Wait) (p : ℕ) (d : Wait) (o : Option ℕ) → 0 < p → p ≤ length ws → o ≡ earliest_deadline (drop p ws) → sooner (get_or ws (p - 1) d).deadline o ≡ earliest_deadline (drop (p - 1) ws)
sooner_at ws p d o l m e =
    let next : p - 1 + 1 ≡ p = omega arith in
    rw e (sym (ap earliest_deadline (rw next at (drop_at ws (p - 1) d (omega arith)))))

-- THE GREATEST READY THREAD

greatest_of : (n : ℕ) (s : threads.State) (b : Bool) → 0 < n → threads.is_ready s n ≡ b → greatest_ready n s ≡ cond b (Some n) (greatest_ready (n - 1) s)
greatest_of zero s b l e = absurd (omega arith)
greatest_of (suc n) s b l e =
    let below : suc n - 1 ≡ n = omega arith in
    rw below (ap (λ x. cond x (Some (suc n)) (greatest_ready n s)) e)

pub greatest_found : (n : ℕ) (s : threads.State) → 0 < n → threads.is_ready s n ≡ true → greatest_ready n s ≡ Some n
greatest_found n s l e = greatest_of n s true l e

pub greatest_passed : (n : ℕ) (s : threads.State) → 0 < n → threads.is_ready s n ≡ false → greatest_ready n s ≡ greatest_ready (n - 1) s
greatest_passed n s l e = greatest_of n s false l e
