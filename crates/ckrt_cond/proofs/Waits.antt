-- Waits at conditions: what the first of a queue says of all, and what a change of the list keeps.
use Rattle.std.proofs.Common.{◌≡◌, ℕ, ◌==◌, eqb-true, Bool, true, false, ◌&&◌, ◌||◌, List, [], ◌∷◌, Option, Some, None, refl, sym, ap, ◌∙◌, arith}
use Rattle.std.specs.List.{list_any, find}
use Rattle.std.proofs.lemmas.Bool.Decides.{nat_tests}
use Rattle.std.proofs.lemmas.List.Folds.{list_any-append}
use Rattle.ckrt_thread.specs.declared.records.Wait.{Wait}
use Rattle.ckrt_thread.specs.declared.records.Reason.{Reason}
use Rattle.ckrt_thread.specs.declared.records.Reason.TheVariants as reason
use Rattle.ckrt_thread.specs.declared.records.Object.TheVariants as object
use Rattle.ckrt_thread.specs.Waits.{is_for, is_reason_for, without}
use Rattle.ckrt_thread.specs.State.{State, first_waiter, blocked}
use Rattle.ckrt_thread.proofs.Grants.{empty_queue}
use Rattle.ckrt_objects.proofs.Waits.{any_without, found_any, found_holds}
use Rattle.ckrt_cond.specs.Rows.{waiters, is_with_other, has_other_mutex}
use Rattle.ckrt_cond.specs.WellFormed.{is_with, is_waited_with, IsWellFormed}

-- nobody is in the queue of a condition where it has no first
pub no_waiters : (c : ℕ) (s : State) → first_waiter (object.Condition c) s ≡ None → waiters c s ≡ []
no_waiters c s e = empty_queue (object.Condition c) s e

-- who waits for a mutex waits at no condition
pub mutex_not_condition : (a c : ℕ) (r : Reason) → is_reason_for (object.Mutex a) r ≡ true → is_reason_for (object.Condition c) r ≡ false
mutex_not_condition a c (reason.Condition d b) h = absurd (cc)
mutex_not_condition a c reason.Input h = refl
mutex_not_condition a c reason.Sleep h = refl
mutex_not_condition a c (reason.Join i) h = refl
mutex_not_condition a c (reason.Lock m) h = refl
mutex_not_condition a c (reason.Retake m v) h = refl
mutex_not_condition a c (reason.Barrier e) h = refl
mutex_not_condition a c (reason.Read l) h = refl
mutex_not_condition a c (reason.Write l) h = refl

-- nor does who joins a thread
pub join_not_condition : (t c : ℕ) (r : Reason) → is_reason_for (object.End t) r ≡ true → is_reason_for (object.Condition c) r ≡ false
join_not_condition t c (reason.Condition d b) h = absurd (cc)
join_not_condition t c reason.Input h = refl
join_not_condition t c reason.Sleep h = refl
join_not_condition t c (reason.Join i) h = refl
join_not_condition t c (reason.Lock m) h = refl
join_not_condition t c (reason.Retake m v) h = refl
join_not_condition t c (reason.Barrier e) h = refl
join_not_condition t c (reason.Read l) h = refl
join_not_condition t c (reason.Write l) h = refl

-- ONE MUTEX for the waiters of a condition

pub conditions_fewer : (s z : State) → ((f : Wait → Bool) → list_any f z.waits ≡ true → list_any f s.waits ≡ true) → IsWellFormed s → IsWellFormed z
conditions_fewer s z among h = record {
  one_mutex = λ c a b x y. h.one_mutex c a b (among (λ w. is_with c a w.reason) x) (among (λ w. is_with c b w.reason) y);
}

-- a wait has ended
pub conditions_unwaited : (t : ℕ) (s z : State) → z.waits ≡ without t s.waits → IsWellFormed s → IsWellFormed z
conditions_unwaited t s z e h = conditions_fewer s z (λ f x. any_without f t s.waits (rw e at x)) h

-- a wait begins that is at no condition
pub conditions_other : (t : ℕ) (r : Reason) (d : Option ℕ) (s : State) → ((c a : ℕ) → is_with c a r ≡ false) → IsWellFormed s → IsWellFormed (blocked t r d s)
conditions_other t r d s n h =
    let kept : (c a : ℕ) → is_waited_with c a (blocked t r d s) ≡ true → is_waited_with c a s ≡ true =
    λ c a x. grind (arith, nat_tests, list_any-append (λ w. is_with c a w.reason) s.waits (record { thread = t; reason = r; deadline = d } ∷ []), n c a, x) in
    record { one_mutex = λ c a b x y. h.one_mutex c a b (kept c a x) (kept c b y) }

same_reason : (c a b : ℕ) (r : Reason) → is_with_other c a r ≡ false → is_with c b r ≡ true → a ≡ b
same_reason c a b (reason.Condition d e) n h = grind (arith, nat_tests)
same_reason c a b reason.Input n h = absurd (cc)
same_reason c a b reason.Sleep n h = absurd (cc)
same_reason c a b (reason.Join i) n h = absurd (cc)
same_reason c a b (reason.Lock m) n h = absurd (cc)
same_reason c a b (reason.Retake m v) n h = absurd (cc)
same_reason c a b (reason.Barrier e) n h = absurd (cc)
same_reason c a b (reason.Read l) n h = absurd (cc)
same_reason c a b (reason.Write l) n h = absurd (cc)

-- where nobody waits with another mutex, who waits does with this one
pub same_mutex : (c a b : ℕ) (ws : List Wait) → list_any (λ w. is_with_other c a w.reason) ws ≡ false → list_any (λ w. is_with c b w.reason) ws ≡ true → a ≡ b
same_mutex c a b [] n h = absurd (cc)
same_mutex c a b (w ∷ ws) n h = grind (arith, nat_tests, same_reason c a b w.reason, same_mutex c a b ws)

agree : (c a d x y : ℕ) (v w : Bool) → (v || ((d == c && x == a) || false)) ≡ true → (w || ((d == c && y == a) || false)) ≡ true
    → (v ≡ true → w ≡ true → x ≡ y) → (d ≡ c → v ≡ true → a ≡ x) → (d ≡ c → w ≡ true → a ≡ y) → x ≡ y
agree c a d x y true true p q both f g = both refl refl
agree c a d x y true false p q both f g = grind (arith, nat_tests, f, q)
agree c a d x y false true p q both f g = grind (arith, nat_tests, g, p)
agree c a d x y false false p q both f g = grind (arith, nat_tests, p, q)

-- a wait begins at a condition, with the mutex of those who wait there
pub conditions_waiting : (t c a : ℕ) (d : Option ℕ) (s : State) → has_other_mutex c a s ≡ false → IsWellFormed s → IsWellFormed (blocked t (reason.Condition c a) d s)
conditions_waiting t c a d s n h =
    let split : (e x : ℕ) → is_waited_with e x (blocked t (reason.Condition c a) d s) ≡ (is_waited_with e x s || ((e == c && x == a) || false)) =
    λ e x. list_any-append (λ w. is_with e x w.reason) s.waits (record { thread = t; reason = reason.Condition c a; deadline = d } ∷ []) in
    record {
      one_mutex = λ e x y p q.
          agree c a e x y (is_waited_with e x s) (is_waited_with e y s) (sym (split e x) ∙ p) (sym (split e y) ∙ q) (h.one_mutex e x y)
          (λ k v. same_mutex c a x s.waits n (rw k at v)) (λ k v. same_mutex c a y s.waits n (rw k at v));
    }

-- THE FIRST shows whether others have another mutex

none_with_other : (c a : ℕ) (r : Reason) → is_reason_for (object.Condition c) r ≡ false → is_with_other c a r ≡ false
none_with_other c a (reason.Condition d e) h = grind (arith, nat_tests)
none_with_other c a reason.Input h = refl
none_with_other c a reason.Sleep h = refl
none_with_other c a (reason.Join i) h = refl
none_with_other c a (reason.Lock m) h = refl
none_with_other c a (reason.Retake m v) h = refl
none_with_other c a (reason.Barrier e) h = refl
none_with_other c a (reason.Read l) h = refl
none_with_other c a (reason.Write l) h = refl

pub other_none : (c a : ℕ) (ws : List Wait) → find (is_for (object.Condition c)) ws ≡ None → list_any (λ w. is_with_other c a w.reason) ws ≡ false
other_none c a [] e = refl
other_none c a (w ∷ ws) e = grind (arith, nat_tests, none_with_other c a w.reason, other_none c a ws)

other_same : (c a : ℕ) (r : Reason) → ((x : ℕ) → is_with c x r ≡ true → a ≡ x) → is_with_other c a r ≡ false
other_same c a (reason.Condition d e) f = (let g : is_with c e (reason.Condition d e) ≡ true → a ≡ e = f e in grind (arith, nat_tests, g))
other_same c a reason.Input f = refl
other_same c a reason.Sleep f = refl
other_same c a (reason.Join i) f = refl
other_same c a (reason.Lock m) f = refl
other_same c a (reason.Retake m v) f = refl
other_same c a (reason.Barrier e) f = refl
other_same c a (reason.Read l) f = refl
other_same c a (reason.Write l) f = refl

-- where all who wait have this mutex, nobody has another
pub all_same : (c a : ℕ) (ws : List Wait) → ((x : ℕ) → list_any (λ w. is_with c x w.reason) ws ≡ true → a ≡ x) → list_any (λ w. is_with_other c a w.reason) ws ≡ false
all_same c a [] f = refl
all_same c a (w ∷ ws) f =
    let first = other_same c a w.reason (λ x h. f x (grind (arith, nat_tests, h))) in
    let rest = all_same c a ws (λ x h. f x (grind (arith, nat_tests, h))) in
    grind (arith, nat_tests, first, rest)

-- who waits for a condition waits there with a mutex
pub at_condition : (c : ℕ) (r : Reason) → is_reason_for (object.Condition c) r ≡ true → (b : ℕ) × (r ≡ reason.Condition c b)
at_condition c (reason.Condition d b) h = (b, ap (λ e. reason.Condition e b) (sym (eqb-true c d h)))
at_condition c reason.Input h = absurd (cc)
at_condition c reason.Sleep h = absurd (cc)
at_condition c (reason.Join i) h = absurd (cc)
at_condition c (reason.Lock m) h = absurd (cc)
at_condition c (reason.Retake m v) h = absurd (cc)
at_condition c (reason.Barrier e) h = absurd (cc)
at_condition c (reason.Read l) h = absurd (cc)
at_condition c (reason.Write l) h = absurd (cc)

first_shows : (c a b : ℕ) (s : State) (w : Wait) → IsWellFormed s → first_waiter (object.Condition c) s ≡ Some w → w.reason ≡ reason.Condition c b → has_other_mutex c a s ≡ is_with_other c a w.reason
first_shows c a b s w h e r =
    let p = is_for (object.Condition c) in
    let mine : is_with c b w.reason ≡ true = rw r (grind (arith, nat_tests)) in
    let there : is_waited_with c b s ≡ true = found_any p (λ v. is_with c b v.reason) s.waits w e mine in
    elim (is_with_other c a w.reason) as (λ q. is_with_other c a w.reason ≡ q → has_other_mutex c a s ≡ q) [
      | true ↦ λ t. found_any p (λ v. is_with_other c a v.reason) s.waits w e t
      | false ↦ λ f. all_same c a s.waits (λ y v. same_reason c a b w.reason f mine ∙ h.one_mutex c b y there v)
    ] refl

pub other_first : (c a : ℕ) (s : State) (w : Wait) → IsWellFormed s → first_waiter (object.Condition c) s ≡ Some w → has_other_mutex c a s ≡ is_with_other c a w.reason
other_first c a s w h e =
    let r = at_condition c w.reason (found_holds (is_for (object.Condition c)) s.waits w e) in
    first_shows c a r.0 s w h e r.1
