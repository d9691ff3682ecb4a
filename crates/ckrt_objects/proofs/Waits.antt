-- Lists of waits: what is found in one, and what stays when a wait has ended or begun.
use Rattle.std.proofs.Common.{◌≡◌, ℕ, ◌≤◌, eqb, eqb-true, Bool, true, false, if◌then◌else◌, not, ◌&&◌, List, [], ◌∷◌, ◌++◌, Some, None, refl, ap, arith}
use Rattle.std.specs.List.{list_any, list_all, find, filter}
use Rattle.std.proofs.lemmas.Bool.Decides.{nat_tests}
use Rattle.ckrt_thread.specs.declared.records.Wait.{Wait}
use Rattle.ckrt_thread.specs.Waits.{is_of, without}
use Rattle.ckrt_thread.specs.State.{count_of}
use Rattle.ckrt_thread.proofs.Counting.{count_of_some}
use Rattle.ckrt_thread.proofs.WaitLemmas.{found_waits, list_all-without}

-- either way of a choice
pub either : {X : Type 0} (P : X → Type 0) (b : Bool) (x y : X) → (b ≡ true → P x) → (b ≡ false → P y) → P (if b then x else y)
either P true x y p q = p refl
either P false x y p q = q refl

-- TESTS of all and of any

pub all_not : {X : Type 0} (p : X → Bool) (xs : List X) → list_any p xs ≡ false → list_all (λ x. not (p x)) xs ≡ true
all_not p [] h = refl
all_not p (x ∷ xs) h = grind (arith, nat_tests, all_not p xs)

pub none_of_all : {X : Type 0} (p : X → Bool) (xs : List X) → list_all (λ x. not (p x)) xs ≡ true → list_any p xs ≡ false
none_of_all p [] h = refl
none_of_all p (x ∷ xs) h = grind (arith, nat_tests, none_of_all p xs)

pub all_true : {X : Type 0} (xs : List X) → list_all (λ x. true) xs ≡ true
all_true [] = refl
all_true (x ∷ xs) = all_true xs

-- a test that has four parts
pub all_four : {X : Type 0} (p q r t f : X → Bool) → ((x : X) → f x ≡ (p x && q x && r x && t x)) → (xs : List X) → list_all f xs ≡ (list_all p xs && list_all q xs && list_all r xs && list_all t xs)
all_four p q r t f e [] = refl
all_four p q r t f e (x ∷ xs) = grind (arith, nat_tests, e x, all_four p q r t f e xs)

-- A PART that is empty

pub first_left_out : {X : Type 0} (p : X → Bool) (x : X) (xs : List X) → filter p (x ∷ xs) ≡ [] → p x ≡ false
first_left_out p x xs e =
    elim (p x) as (λ b. p x ≡ b → p x ≡ false) [
      | true ↦ λ t. (let there : filter p (x ∷ xs) ≡ x ∷ filter p xs = grind (arith, nat_tests, t) in absurd (cc))
      | false ↦ λ f. f
    ] refl

pub rest_left_out : {X : Type 0} (p : X → Bool) (x : X) (xs : List X) → filter p (x ∷ xs) ≡ [] → filter p xs ≡ []
rest_left_out p x xs e = (let f = first_left_out p x xs e in grind (arith, nat_tests, f, e))

-- THE FIRST that passes a test

pub find_none : {X : Type 0} (p : X → Bool) (xs : List X) → find p xs ≡ None → list_all (λ x. not (p x)) xs ≡ true
find_none p [] e = refl
find_none p (x ∷ xs) e = grind (arith, nat_tests, find_none p xs)

pub found_holds : {X : Type 0} (p : X → Bool) (xs : List X) (x : X) → find p xs ≡ Some x → p x ≡ true
found_holds p [] x e = absurd (cc)
found_holds p (y ∷ xs) x e = grind (arith, nat_tests, found_holds p xs x)

pub found_all : {X : Type 0} (p f : X → Bool) (xs : List X) (x : X) → find p xs ≡ Some x → list_all f xs ≡ true → f x ≡ true
found_all p f [] x e h = absurd (cc)
found_all p f (y ∷ xs) x e h = grind (arith, nat_tests, found_all p f xs x)

pub found_any : {X : Type 0} (p f : X → Bool) (xs : List X) (x : X) → find p xs ≡ Some x → f x ≡ true → list_any f xs ≡ true
found_any p f [] x e h = absurd (cc)
found_any p f (y ∷ xs) x e h = grind (arith, nat_tests, found_any p f xs x)

-- one that passes a test, where some does
pub found : {X : Type 0} (p : X → Bool) (xs : List X) → list_any p xs ≡ true → (x : X) × ((find p xs ≡ Some x) × (p x ≡ true))
found {X = X} p [] h = absurd (cc)
found {X = X} p (x ∷ xs) h =
    elim (p x) as (λ b. p x ≡ b → (y : X) × ((find p (x ∷ xs) ≡ Some y) × (p y ≡ true))) [
      | true ↦ λ e. (x, (grind (arith, nat_tests), e))
      | false ↦ λ e. let r = found p xs (grind (arith, nat_tests)) in (r.0, (grind (arith, nat_tests, r.1.0), r.1.1))
    ] refl

-- A LIST with a wait taken out

pub any_without : (f : Wait → Bool) (t : ℕ) (ws : List Wait) → list_any f (without t ws) ≡ true → list_any f ws ≡ true
any_without f t [] h = h
any_without f t (w ∷ ws) h = grind (arith, nat_tests, any_without f t ws)

pub none_without : (f : Wait → Bool) (t : ℕ) (ws : List Wait) → list_any f ws ≡ false → list_any f (without t ws) ≡ false
none_without f t [] h = h
none_without f t (w ∷ ws) h = grind (arith, nat_tests, none_without f t ws)

-- the end of a wait for something else leaves a queue
pub queue_elsewhere : (q p : Wait → Bool) (ws : List Wait) (w : Wait) → find q ws ≡ Some w → p w ≡ false → count_of (is_of w.thread) ws ≤ 1 → filter p (without w.thread ws) ≡ filter p ws
queue_elsewhere q p [] w e n l = refl
queue_elsewhere q p (v ∷ ws) w e n l = grind (arith, nat_tests, queue_elsewhere q p ws w, found_waits q ws w, count_of_some (is_of w.thread) ws)

-- a wait that passes the test goes to the end of the queue, and another is not in it
pub queue_last : (p : Wait → Bool) (ws : List Wait) (w : Wait) → p w ≡ true → filter p (ws ++ w ∷ []) ≡ filter p ws ++ w ∷ []
queue_last p [] w h = grind (arith, nat_tests)
queue_last p (v ∷ ws) w h = grind (arith, nat_tests, queue_last p ws w h)

pub queue_other : (p : Wait → Bool) (ws : List Wait) (w : Wait) → p w ≡ false → filter p (ws ++ w ∷ []) ≡ filter p ws
queue_other p [] w n = grind (arith, nat_tests)
queue_other p (v ∷ ws) w n = grind (arith, nat_tests, queue_other p ws w n)

-- each wait of the one list is one of the other
abbrev pub IsAmong : List Wait → List Wait → Type 0
IsAmong vs ws = (f : Wait → Bool) → list_all f ws ≡ true → list_all f vs ≡ true

pub any_among : (vs ws : List Wait) → IsAmong vs ws → (f : Wait → Bool) → list_any f vs ≡ true → list_any f ws ≡ true
any_among vs ws among f h = grind (arith, nat_tests, all_not f ws, among (λ w. not (f w)), none_of_all f vs)

pub among_without : (t : ℕ) (ws : List Wait) → IsAmong (without t ws) ws
among_without t ws = λ f h. list_all-without f t ws h

pub none_among : (vs ws : List Wait) → IsAmong vs ws → (f : Wait → Bool) → list_any f ws ≡ false → list_any f vs ≡ false
none_among vs ws among f h = none_of_all f vs (among (λ w. not (f w)) (all_not f ws h))

-- who waits is another than who does not
pub another : (t u : ℕ) (ws : List Wait) → list_any (is_of t) ws ≡ true → list_any (is_of u) ws ≡ false → eqb t u ≡ false
another t u ws w n =
    let e : eqb t u ≡ true → list_any (is_of t) ws ≡ list_any (is_of u) ws = λ x. ap (λ i. list_any (is_of i) ws) (eqb-true t u x) in
    grind (arith, nat_tests, n, w, e)
