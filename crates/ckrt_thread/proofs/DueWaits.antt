-- The due wait that ends first.
use Rattle.std.proofs.Common.{◌≡◌, ℕ, zero, suc, ◌+◌, ◌≤◌, ◌<◌, Bool, true, false, cond, List, [], ◌∷◌, ◌++◌, length, Option, Some, None, IfSome, refl, sym, ap, subst, ◌∙◌, arith, slice_get, get_or, drop, ◌-◌}
use Rattle.std.specs.List.{find, filter, list_any, list_all}
use Rattle.std.proofs.lemmas.Bool.Decides.{nat_tests}
use Rattle.ckrt_thread.specs.declared.records.Wait.{Wait}
use Rattle.ckrt_thread.specs.Waits.{is_of, without}
use Rattle.ckrt_thread.specs.Deadlines.{is_ahead, is_due, is_reached, is_before, inserted, in_order, due_waits, sooner_of, earliest_due}
use Rattle.ckrt_thread.specs.State.{State, IsWellFormed, count_of, is_live}
use Rattle.ckrt_thread.proofs.Counting.{count_of_some}
use Rattle.ckrt_thread.proofs.Known.{waiting_live}

drop_at : {X : Type 0} (xs : List X) (i : ℕ) (x : X) → slice_get xs i ≡ Some x → drop i xs ≡ x ∷ drop (i + 1) xs
drop_at [] i x e = absurd (cc)
drop_at (y ∷ xs) zero x e = grind (arith, nat_tests)
drop_at (y ∷ xs) (suc i) x e = grind (arith, nat_tests, drop_at xs i x)

-- what a choice of lists begins with
first_of_cond : (b : Bool) (v w : Wait) (vs ws : List Wait) → slice_get (cond b (v ∷ vs) (w ∷ ws)) 0 ≡ Some (cond b v w)
first_of_cond true v w vs ws = refl
first_of_cond false v w vs ws = refl

first_inserted : (w : Wait) (vs : List Wait) → slice_get (inserted w vs) 0 ≡ Some (sooner_of w (slice_get vs 0))
first_inserted w [] = refl
first_inserted w (v ∷ vs) = first_of_cond (is_before v w) v w (inserted w vs) (v ∷ vs)

earliest_cons : (now : ℕ) (w : Wait) (ws : List Wait) → earliest_due now (w ∷ ws) ≡ cond (is_due now w) (Some (sooner_of w (earliest_due now ws))) (earliest_due now ws)
earliest_cons now w ws =
    elim (is_due now w) as (λ b. slice_get (in_order (cond b (w ∷ filter (is_due now) ws) (filter (is_due now) ws))) 0 ≡ cond b (Some (sooner_of w (earliest_due now ws))) (earliest_due now ws)) [
      | true ↦ first_inserted w (due_waits now ws)
      | false ↦ refl
    ]

pub due_at_place : (ws : List Wait) (i now : ℕ) (w : Wait) → slice_get ws i ≡ Some w → is_due now w ≡ true → earliest_due now (drop i ws) ≡ Some (sooner_of w (earliest_due now (drop (i + 1) ws)))
due_at_place ws i now w e d = rw (drop_at ws i w e) (earliest_cons now w (drop (i + 1) ws) ∙ ap (λ b. cond b (Some (sooner_of w (earliest_due now (drop (i + 1) ws)))) (earliest_due now (drop (i + 1) ws))) d)

pub not_due_at_place : (ws : List Wait) (i now : ℕ) (w : Wait) → slice_get ws i ≡ Some w → is_due now w ≡ false → earliest_due now (drop i ws) ≡ earliest_due now (drop (i + 1) ws)
not_due_at_place ws i now w e d = rw (drop_at ws i w e) (earliest_cons now w (drop (i + 1) ws) ∙ ap (λ b. cond b (Some (sooner_of w (earliest_due now (drop (i + 1) ws)))) (earliest_due now (drop (i + 1) ws))) d)

at_index : (ws : List Wait) (i : ℕ) (d : Wait) → i < length ws → slice_get ws i ≡ Some (get_or ws i d)
at_index [] i d l = absurd (omega arith)
at_index (w ∷ ws) zero d l = refl
at_index (w ∷ ws) (suc i) d l = at_index ws i d (omega arith)

-- a due wait before the place p
pub due_before : (ws : List Wait) (p now : ℕ) (d x : Wait) (best : Option Wait) → 0 < p → p ≤ length ws → is_due now (get_or ws (p - 1) d) ≡ true → x ≡ sooner_of (get_or ws (p - 1) d) best → best ≡ earliest_due now (drop p ws) → Some x ≡ earliest_due now (drop (p - 1) ws)
due_before ws p now d x best l m y s b =
    let within : p - 1 < length ws = omega arith in
    let next : p - 1 + 1 ≡ p = omega arith in
    rw (s, b) (sym (rw next at (due_at_place ws (p - 1) now (get_or ws (p - 1) d) (at_index ws (p - 1) d within) y)))

-- WHICH WAIT IT IS

-- one of both
one_of : (P : Wait → Type 0) (w : Wait) (o : Option Wait) → P w → ((v : Wait) → o ≡ Some v → P v) → P (sooner_of w o)
one_of P w None p q = p
one_of P w (Some v) p q = elim (is_before v w) as (λ b. P (cond b v w)) [ true ↦ q v refl | false ↦ p ]

-- it is the first wait, which is due then, or it is the first to end of the others
first_or_other : (P : Wait → Type 0) (now : ℕ) (w : Wait) (ws : List Wait) (x : Wait) → earliest_due now (w ∷ ws) ≡ Some x → (is_due now w ≡ true → P w) → ((v : Wait) → earliest_due now ws ≡ Some v → P v) → P x
first_or_other P now w ws x e p q =
    elim (is_due now w) as (λ b. is_due now w ≡ b → cond b (Some (sooner_of w (earliest_due now ws))) (earliest_due now ws) ≡ Some x → P x) [
      | true ↦ λ d f. (let same : sooner_of w (earliest_due now ws) ≡ x = cc in subst P same (one_of P w (earliest_due now ws) (p d) q))
      | false ↦ λ d f. q x f
    ] refl (sym (earliest_cons now w ws) ∙ e)

pub earliest_is_due : (now : ℕ) (ws : List Wait) (x : Wait) → earliest_due now ws ≡ Some x → is_due now x ≡ true
earliest_is_due now [] x e = absurd (cc)
earliest_is_due now (w ∷ ws) x e = first_or_other (λ v. is_due now v ≡ true) now w ws x e (λ d. d) (λ v f. earliest_is_due now ws v f)

own_first : (w : Wait) (ws : List Wait) → list_any (is_of w.thread) (w ∷ ws) ≡ true
own_first w ws = grind (arith, nat_tests)

any_more : (t : ℕ) (w : Wait) (ws : List Wait) → list_any (is_of t) ws ≡ true → list_any (is_of t) (w ∷ ws) ≡ true
any_more t w ws h = grind (arith, nat_tests)

pub earliest_waits : (now : ℕ) (ws : List Wait) (x : Wait) → earliest_due now ws ≡ Some x → list_any (is_of x.thread) ws ≡ true
earliest_waits now [] x e = absurd (cc)
earliest_waits now (w ∷ ws) x e =
    first_or_other (λ v. list_any (is_of v.thread) (w ∷ ws) ≡ true) now w ws x e (λ d. own_first w ws) (λ v f. any_more v.thread w ws (earliest_waits now ws v f))

own_found : (w : Wait) (ws : List Wait) → find (is_of w.thread) (w ∷ ws) ≡ Some w
own_found w ws = grind (arith, nat_tests)

found_behind : (w v : Wait) (ws : List Wait) → count_of (is_of v.thread) (w ∷ ws) ≤ 1 → list_any (is_of v.thread) ws ≡ true → (count_of (is_of v.thread) ws ≤ 1 → find (is_of v.thread) ws ≡ Some v) → find (is_of v.thread) (w ∷ ws) ≡ Some v
found_behind w v ws c a f =
    let some = count_of_some (is_of v.thread) ws a in
    grind (arith, nat_tests, some, f)

-- a thread that waits once is found by its wait
pub earliest_found : (now : ℕ) (ws : List Wait) (x : Wait) → earliest_due now ws ≡ Some x → count_of (is_of x.thread) ws ≤ 1 → find (is_of x.thread) ws ≡ Some x
earliest_found now [] x e c = absurd (cc)
earliest_found now (w ∷ ws) x e c =
    first_or_other (λ v. count_of (is_of v.thread) (w ∷ ws) ≤ 1 → find (is_of v.thread) (w ∷ ws) ≡ Some v) now w ws x e (λ d k. own_found w ws)
    (λ v f k. found_behind w v ws k (earliest_waits now ws v f) (earliest_found now ws v f)) c

-- what holds of the due wait that ends first
abbrev pub IsFoundIn : State → Wait → Type 0
IsFoundIn s w = (find (is_of w.thread) s.waits ≡ Some w) × (is_live s w.thread ≡ true)

pub earliest_in : (s : State) (now : ℕ) (o : Option Wait) → o ≡ earliest_due now s.waits → IsWellFormed s → IfSome o (IsFoundIn s)
earliest_in s now None e h = tt
earliest_in s now (Some w) e h =
    (earliest_found now s.waits w (sym e) (grind (arith, nat_tests, h.placed w.thread)), waiting_live s w.thread h (earliest_waits now s.waits w (sym e)))

-- THE DUE WAITS

length_inserted : (w : Wait) (vs : List Wait) → length (inserted w vs) ≡ length vs + 1
length_inserted w [] = refl
length_inserted w (v ∷ vs) = grind (arith, nat_tests, length_inserted w vs)

-- as many as are due
pub length_due : (now : ℕ) (ws : List Wait) → length (due_waits now ws) ≤ length ws
length_due now [] = omega arith
length_due now (w ∷ ws) =
    elim (is_due now w) as (λ b. length (in_order (cond b (w ∷ filter (is_due now) ws) (filter (is_due now) ws))) ≤ length (w ∷ ws)) [
      | true ↦ omega (arith, length_inserted w (due_waits now ws), length_due now ws)
      | false ↦ omega (arith, length_due now ws)
    ]

ahead_of : (now : ℕ) (d : Option ℕ) → is_reached now d ≡ false → is_ahead now d ≡ true
ahead_of now None e = refl
ahead_of now (Some d) e = grind (arith, nat_tests)

ahead_first : (now : ℕ) (w : Wait) (ws : List Wait) → length (due_waits now (w ∷ ws)) ≡ 0 → (is_ahead now w.deadline ≡ true) × (length (due_waits now ws) ≡ 0)
ahead_first now w ws e =
    elim (is_due now w) as (λ b. is_due now w ≡ b → length (in_order (cond b (w ∷ filter (is_due now) ws) (filter (is_due now) ws))) ≡ 0 → (is_ahead now w.deadline ≡ true) × (length (due_waits now ws) ≡ 0)) [
      | true ↦ λ d f. absurd (let l = length_inserted w (due_waits now ws) in omega arith)
      | false ↦ λ d f. (ahead_of now w.deadline d, f)
    ] refl e

-- where none is due each deadline lies ahead
pub none_due : (now : ℕ) (ws : List Wait) → length (due_waits now ws) ≡ 0 → list_all (λ w. is_ahead now w.deadline) ws ≡ true
none_due now [] e = refl
none_due now (w ∷ ws) e =
    let first = ahead_first now w ws e in
    let here = first.0 in
    let rest = none_due now ws first.1 in
    grind (arith, nat_tests, here, rest)

pub nothing_first : {X : Type 0} (xs : List X) → slice_get xs 0 ≡ None → length xs ≡ 0
nothing_first [] e = refl
nothing_first (x ∷ xs) e = absurd (cc)

never_before_itself : (w : Wait) → is_before w w ≡ false
never_before_itself w = grind (arith, nat_tests)

-- a wait that ends before others stands before them
before_others : (w : Wait) (vs : List Wait) → slice_get (inserted w vs) 0 ≡ Some w → inserted w vs ≡ w ∷ vs
before_others w [] e = refl
before_others w (v ∷ vs) e =
    elim (is_before v w) as (λ b. is_before v w ≡ b → slice_get (cond b (v ∷ inserted w vs) (w ∷ v ∷ vs)) 0 ≡ Some w → cond b (v ∷ inserted w vs) (w ∷ v ∷ vs) ≡ w ∷ v ∷ vs) [
      | true ↦ λ d f. absurd (let same : v ≡ w = cc in let n = never_before_itself w in let m : is_before w w ≡ true = rw same at d in cc)
      | false ↦ λ d f. refl
    ] refl e

-- a wait of another thread is inserted behind the first
behind_first : (v w : Wait) (vs : List Wait) → is_of w.thread v ≡ false → slice_get (inserted v vs) 0 ≡ Some w → (rest : List Wait) → (slice_get vs 0 ≡ Some w → vs ≡ w ∷ rest) → inserted v vs ≡ w ∷ inserted v rest
behind_first v w [] o e rest f = absurd (let same : v ≡ w = cc in let own : is_of w.thread w ≡ true = grind (arith, nat_tests) in let not_own : is_of w.thread w ≡ false = rw same at o in cc)
behind_first v w (u ∷ vs) o e rest f =
    elim (is_before u v) as (λ b. is_before u v ≡ b → slice_get (cond b (u ∷ inserted v vs) (v ∷ u ∷ vs)) 0 ≡ Some w → cond b (u ∷ inserted v vs) (v ∷ u ∷ vs) ≡ w ∷ inserted v rest) [
      | true ↦ λ d g. (let same : u ≡ w = cc in let others : vs ≡ rest = (let k : u ∷ vs ≡ w ∷ rest = f g in cc) in rw (same, others) refl)
      | false ↦ λ d g. absurd (let same : v ≡ w = cc in let own : is_of w.thread w ≡ true = grind (arith, nat_tests) in let not_own : is_of w.thread w ≡ false = rw same at o in cc)
    ] refl e

due_cons : (now : ℕ) (v : Wait) (ws : List Wait) (b : Bool) → is_due now v ≡ b → due_waits now (v ∷ ws) ≡ cond b (inserted v (due_waits now ws)) (due_waits now ws)
due_cons now v ws true e = ap (λ b. in_order (cond b (v ∷ filter (is_due now) ws) (filter (is_due now) ws))) e
due_cons now v ws false e = ap (λ b. in_order (cond b (v ∷ filter (is_due now) ws) (filter (is_due now) ws))) e

found_own : (v w : Wait) (ws : List Wait) → find (is_of w.thread) (v ∷ ws) ≡ Some w → is_of w.thread v ≡ true → v ≡ w
found_own v w ws e o = (let f : Some v ≡ Some w = rw o at e in cc)

found_other : (v w : Wait) (ws : List Wait) → find (is_of w.thread) (v ∷ ws) ≡ Some w → is_of w.thread v ≡ false → find (is_of w.thread) ws ≡ Some w
found_other v w ws e o = rw o at e

without_own : (t : ℕ) (v : Wait) (ws : List Wait) → is_of t v ≡ true → without t (v ∷ ws) ≡ ws
without_own t v ws o = ap (λ b. cond b ws (v ∷ without t ws)) o

without_other : (t : ℕ) (v : Wait) (ws : List Wait) → is_of t v ≡ false → without t (v ∷ ws) ≡ v ∷ without t ws
without_other t v ws o = ap (λ b. cond b ws (v ∷ without t ws)) o

-- the other due waits, when the first to end has been taken out
pub due_rest : (now : ℕ) (ws : List Wait) (w : Wait) → find (is_of w.thread) ws ≡ Some w → is_due now w ≡ true → earliest_due now ws ≡ Some w → due_waits now ws ≡ w ∷ due_waits now (without w.thread ws)
due_rest now [] w e d f = absurd (cc)
due_rest now (v ∷ ws) w e d f =
    elim (is_of w.thread v) as (λ b. is_of w.thread v ≡ b → due_waits now (v ∷ ws) ≡ w ∷ due_waits now (without w.thread (v ∷ ws))) [
      | true ↦ λ o.
          let same = found_own v w ws e o in
          let due : is_due now v ≡ true = rw same d in
          let begins : slice_get (inserted w (due_waits now ws)) 0 ≡ Some w = rw same at (ap (λ x. slice_get x 0) (sym (due_cons now v ws true due)) ∙ f) in
          rw (without_own w.thread v ws o) (due_cons now v ws true due ∙ rw same (before_others w (due_waits now ws) begins))
      | false ↦ λ o.
          let rest = due_rest now ws w (found_other v w ws e o) d in
          rw (without_other w.thread v ws o)
          (elim (is_due now v) as (λ b. is_due now v ≡ b → due_waits now (v ∷ ws) ≡ w ∷ due_waits now (v ∷ without w.thread ws)) [
            | true ↦ λ x. due_cons now v ws true x ∙ behind_first v w (due_waits now ws) o (ap (λ y. slice_get y 0) (sym (due_cons now v ws true x)) ∙ f) (due_waits now (without w.thread ws)) rest ∙ ap (λ y. w ∷ y) (sym (due_cons now v (without w.thread ws) true x))
            | false ↦ λ x. due_cons now v ws false x ∙ rest (ap (λ y. slice_get y 0) (sym (due_cons now v ws false x)) ∙ f) ∙ ap (λ y. w ∷ y) (sym (due_cons now v (without w.thread ws) false x))
          ] refl)
    ] refl

-- a wait more that is not due
filter_more : (p : Wait → Bool) (ws : List Wait) (u : Wait) → p u ≡ false → filter p (ws ++ u ∷ []) ≡ filter p ws
filter_more p [] u e = ap (λ b. cond b (u ∷ []) []) e
filter_more p (w ∷ ws) u e = ap (λ xs. cond (p w) (w ∷ xs) xs) (filter_more p ws u e)

pub due_more : (now : ℕ) (ws : List Wait) (u : Wait) → is_due now u ≡ false → due_waits now (ws ++ u ∷ []) ≡ due_waits now ws
due_more now ws u e = ap in_order (filter_more (is_due now) ws u e)
