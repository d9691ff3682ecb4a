-- The row that counts one more.
use Rattle.std.proofs.Common.{◌≡◌, ◌≤◌, ◌<◌, ℕ, zero, suc, ◌+◌, ◌||◌, Bool, true, false, if◌then◌else◌, List, [], ◌∷◌, length, take, get_or, slice_get, slice_set, Some, refl, sym, ap, ◌∙◌, subst, add-one}
use Rattle.std.proofs.lemmas.List.{take_all}
use Rattle.std.proofs.lemmas.Option.{slice_get-get_or}
use Rattle.std.specs.List.{list_any}
use Rattle.ckrt_look_heap.specs.declared.block.Access.{Access}
use Rattle.ckrt_look_heap.specs.declared.block.Cell.{Cell}
use Rattle.ckrt_look_heap.specs.declared.finding.Finding.{Finding}
use Rattle.ckrt_look_heap.specs.Shadow.{counted, is_at, one_more}

-- a choice by a test that is known
pub chosen : {X : Type 0} (t : Bool) (x y : X) → t ≡ true → (if t then x else y) ≡ x
chosen true x y is = refl
chosen false x y is = absurd (cc)

pub passed_over : {X : Type 0} (t : Bool) (x y : X) → t ≡ false → (if t then x else y) ≡ y
passed_over false x y is = refl
passed_over true x y is = absurd (cc)

either : (t u : Bool) → t ≡ false → (t || u) ≡ u
either false u is = refl
either true u is = absurd (cc)

first_false : (t u : Bool) → (t || u) ≡ false → t ≡ false
first_false false u is = refl
first_false true u is = absurd (cc)

second_false : (t u : Bool) → (t || u) ≡ false → u ≡ false
second_false false u is = is
second_false true u is = absurd (cc)

true_first : (t u : Bool) → t ≡ true → (t || u) ≡ true
true_first true u is = refl
true_first false u is = absurd (cc)

pub any_at : (a : Access) (b : Cell) (ps : List Finding) (i : ℕ) (p : Finding) → slice_get ps i ≡ Some p → is_at a b p ≡ true → list_any (is_at a b) ps ≡ true
any_at a b [] i p there is = absurd (cc)
any_at a b (q ∷ ps) zero p there is = (let same : q ≡ p = cc in true_first (is_at a b q) (list_any (is_at a b) ps) (ap (is_at a b) same ∙ is))
any_at a b (q ∷ ps) (suc i) p there is = (let rest = any_at a b ps i p there is in go (is_at a b q) rest)
  where
    go : (t : Bool) → list_any (is_at a b) ps ≡ true → (t || list_any (is_at a b) ps) ≡ true
    go true r = refl
    go false r = r

pub counted_at : (a : Access) (b : Cell) (ps : List Finding) (i : ℕ) (p : Finding) → list_any (is_at a b) (take i ps) ≡ false → slice_get ps i ≡ Some p → is_at a b p ≡ true → slice_set ps i (record p { count = one_more p.count }) ≡ counted a b ps
counted_at a b [] i p none there is = absurd (cc)
counted_at a b (q ∷ ps) zero p none there is = (let same : q ≡ p = cc in
    subst (λ r. slice_set (q ∷ ps) 0 (record r { count = one_more r.count }) ≡ counted a b (q ∷ ps)) same
    (sym (chosen (is_at a b q) (record q { count = one_more q.count } ∷ ps) (q ∷ counted a b ps) (ap (is_at a b) same ∙ is))))
counted_at a b (q ∷ ps) (suc i) p none there is =
    ap (λ l. q ∷ l) (counted_at a b ps i p (second_false (is_at a b q) (list_any (is_at a b) (take i ps)) none) there is)
    ∙ sym (passed_over (is_at a b q) (record q { count = one_more q.count } ∷ ps) (q ∷ counted a b ps) (first_false (is_at a b q) (list_any (is_at a b) (take i ps)) none))

more : (a : Access) (b : Cell) (ps : List Finding) (i : ℕ) (p : Finding) → list_any (is_at a b) (take i ps) ≡ false → slice_get ps i ≡ Some p → is_at a b p ≡ false → list_any (is_at a b) (take (suc i) ps) ≡ false
more a b [] i p none there is = refl
more a b (q ∷ ps) zero p none there is = (let same : q ≡ p = cc in either (is_at a b q) false (ap (is_at a b) same ∙ is))
more a b (q ∷ ps) (suc i) p none there is =
    either (is_at a b q) (list_any (is_at a b) (take (suc i) ps)) (first_false (is_at a b q) (list_any (is_at a b) (take i ps)) none)
    ∙ more a b ps i p (second_false (is_at a b q) (list_any (is_at a b) (take i ps)) none) there is

pub none_more : (a : Access) (b : Cell) (ps : List Finding) (i : ℕ) (p : Finding) → list_any (is_at a b) (take i ps) ≡ false → slice_get ps i ≡ Some p → is_at a b p ≡ false → list_any (is_at a b) (take (i + 1) ps) ≡ false
none_more a b ps i p none there is = ap (λ n. list_any (is_at a b) (take n ps)) (add-one i) ∙ more a b ps i p none there is

pub counted_none : (a : Access) (b : Cell) (ps : List Finding) → list_any (is_at a b) ps ≡ false → counted a b ps ≡ ps
counted_none a b [] none = refl
counted_none a b (q ∷ ps) none =
    passed_over (is_at a b q) (record q { count = one_more q.count } ∷ ps) (q ∷ counted a b ps) (first_false (is_at a b q) (list_any (is_at a b) ps) none)
    ∙ ap (λ l. q ∷ l) (counted_none a b ps (second_false (is_at a b q) (list_any (is_at a b) ps) none))

pub none_in_all : (a : Access) (b : Cell) (ps : List Finding) (i : ℕ) → length ps ≤ i → list_any (is_at a b) (take i ps) ≡ false → list_any (is_at a b) ps ≡ false
none_in_all a b ps i le none = ap (list_any (is_at a b)) (sym (take_all i ps le)) ∙ none

-- what was read of a list that is another
pub read_at : {X : Type 0} (xs ys : List X) (i : ℕ) (p : X) → xs ≡ ys → p ≡ get_or xs i p → i < length xs → slice_get ys i ≡ Some p
read_at xs ys i p same is lt = ap (λ l. slice_get l i) (sym same) ∙ slice_get-get_or xs i p lt ∙ ap (λ q. Some q) (sym is)

-- the row of this place, with another count
pub counts_on : (a : Access) (b : Cell) (xs ps : List Finding) (i n : ℕ) (p q r : Finding) → xs ≡ ps → p ≡ get_or xs i p → q ≡ get_or xs i q → r ≡ get_or xs i r → i < length xs
    → list_any (is_at a b) (take i ps) ≡ false → is_at a b p ≡ true → n ≡ one_more q.count
    → slice_set xs i (record r { count = n }) ≡ counted a b ps
counts_on a b xs ps i n p q r same is_p is_q is_r lt none is is_n =
    let there = read_at xs ps i p same is_p lt in
    let q_p : q ≡ p = (let one = read_at xs ps i q same is_q lt in cc) in
    let r_p : r ≡ p = (let one = read_at xs ps i r same is_r lt in cc) in
    ap (λ l. slice_set l i (record r { count = n })) same
    ∙ ap (λ m. slice_set ps i (record r { count = m })) (is_n ∙ ap (λ (z : Finding). one_more z.count) q_p)
    ∙ ap (λ (z : Finding). slice_set ps i (record z { count = one_more p.count })) r_p
    ∙ counted_at a b ps i p none there is
