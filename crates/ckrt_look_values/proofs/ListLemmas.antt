-- The row that counts one more.
use Rattle.std.proofs.Common.{◌≡◌, ◌≤◌, ◌<◌, ℕ, zero, suc, ◌+◌, ◌||◌, Bool, true, false, List, [], ◌∷◌, length, take, get_or, slice_get, slice_set, Some, refl, sym, ap, ◌∙◌, subst, add-one}
use Rattle.std.proofs.lemmas.List.{take_all}
use Rattle.std.specs.List.{list_any}
use Rattle.ckrt_look_heap.specs.Shadow.{one_more}
use Rattle.ckrt_look_heap.proofs.ListLemmas.{chosen, passed_over, read_at}
use Rattle.ckrt_look_values.specs.declared.value.Use.{Use}
use Rattle.ckrt_look_values.specs.declared.finding.Finding.{Finding}
use Rattle.ckrt_look_values.specs.Values.{counted, is_at}

either : (t u : Bool) → t ≡ false → (t || u) ≡ u
either false u is = refl
either true u is = absurd (cc)

first_false : (t u : Bool) → (t || u) ≡ false → t ≡ false
first_false false u is = refl
first_false true u is = absurd (cc)

second_false : (t u : Bool) → (t || u) ≡ false → u ≡ false
second_false false u is = is
second_false true u is = absurd (cc)

true_first : (t u : Bool) → t ≡ true → (t || u) ≡ true
true_first true u is = refl
true_first false u is = absurd (cc)

pub any_at : (a : Use) (ps : List Finding) (i : ℕ) (p : Finding) → slice_get ps i ≡ Some p → is_at a p ≡ true → list_any (is_at a) ps ≡ true
any_at a [] i p there is = absurd (cc)
any_at a (q ∷ ps) zero p there is = (let same : q ≡ p = cc in true_first (is_at a q) (list_any (is_at a) ps) (ap (is_at a) same ∙ is))
any_at a (q ∷ ps) (suc i) p there is = (let rest = any_at a ps i p there is in go (is_at a q) rest)
  where
    go : (t : Bool) → list_any (is_at a) ps ≡ true → (t || list_any (is_at a) ps) ≡ true
    go true r = refl
    go false r = r

pub counted_at : (a : Use) (ps : List Finding) (i : ℕ) (p : Finding) → list_any (is_at a) (take i ps) ≡ false → slice_get ps i ≡ Some p → is_at a p ≡ true → slice_set ps i (record p { count = one_more p.count }) ≡ counted a ps
counted_at a [] i p none there is = absurd (cc)
counted_at a (q ∷ ps) zero p none there is = (let same : q ≡ p = cc in
    subst (λ r. slice_set (q ∷ ps) 0 (record r { count = one_more r.count }) ≡ counted a (q ∷ ps)) same
    (sym (chosen (is_at a q) (record q { count = one_more q.count } ∷ ps) (q ∷ counted a ps) (ap (is_at a) same ∙ is))))
counted_at a (q ∷ ps) (suc i) p none there is =
    ap (λ l. q ∷ l) (counted_at a ps i p (second_false (is_at a q) (list_any (is_at a) (take i ps)) none) there is)
    ∙ sym (passed_over (is_at a q) (record q { count = one_more q.count } ∷ ps) (q ∷ counted a ps) (first_false (is_at a q) (list_any (is_at a) (take i ps)) none))

more : (a : Use) (ps : List Finding) (i : ℕ) (p : Finding) → list_any (is_at a) (take i ps) ≡ false → slice_get ps i ≡ Some p → is_at a p ≡ false → list_any (is_at a) (take (suc i) ps) ≡ false
more a [] i p none there is = refl
more a (q ∷ ps) zero p none there is = (let same : q ≡ p = cc in either (is_at a q) false (ap (is_at a) same ∙ is))
more a (q ∷ ps) (suc i) p none there is =
    either (is_at a q) (list_any (is_at a) (take (suc i) ps)) (first_false (is_at a q) (list_any (is_at a) (take i ps)) none)
    ∙ more a ps i p (second_false (is_at a q) (list_any (is_at a) (take i ps)) none) there is

pub none_more : (a : Use) (ps : List Finding) (i : ℕ) (p : Finding) → list_any (is_at a) (take i ps) ≡ false → slice_get ps i ≡ Some p → is_at a p ≡ false → list_any (is_at a) (take (i + 1) ps) ≡ false
none_more a ps i p none there is = ap (λ n. list_any (is_at a) (take n ps)) (add-one i) ∙ more a ps i p none there is

pub counted_none : (a : Use) (ps : List Finding) → list_any (is_at a) ps ≡ false → counted a ps ≡ ps
counted_none a [] none = refl
counted_none a (q ∷ ps) none =
    passed_over (is_at a q) (record q { count = one_more q.count } ∷ ps) (q ∷ counted a ps) (first_false (is_at a q) (list_any (is_at a) ps) none)
    ∙ ap (λ l. q ∷ l) (counted_none a ps (second_false (is_at a q) (list_any (is_at a) ps) none))

pub none_in_all : (a : Use) (ps : List Finding) (i : ℕ) → length ps ≤ i → list_any (is_at a) (take i ps) ≡ false → list_any (is_at a) ps ≡ false
none_in_all a ps i le none = ap (list_any (is_at a)) (sym (take_all i ps le)) ∙ none

-- the row of this place, with another count
pub counts_on : (a : Use) (xs ps : List Finding) (i n : ℕ) (p q r : Finding) → xs ≡ ps → p ≡ get_or xs i p → q ≡ get_or xs i q → r ≡ get_or xs i r → i < length xs
    → list_any (is_at a) (take i ps) ≡ false → is_at a p ≡ true → n ≡ one_more q.count
    → slice_set xs i (record r { count = n }) ≡ counted a ps
counts_on a xs ps i n p q r same is_p is_q is_r lt none is is_n =
    let there = read_at xs ps i p same is_p lt in
    let q_p : q ≡ p = (let one = read_at xs ps i q same is_q lt in cc) in
    let r_p : r ≡ p = (let one = read_at xs ps i r same is_r lt in cc) in
    ap (λ l. slice_set l i (record r { count = n })) same
    ∙ ap (λ m. slice_set ps i (record r { count = m })) (is_n ∙ ap (λ (z : Finding). one_more z.count) q_p)
    ∙ ap (λ (z : Finding). slice_set ps i (record z { count = one_more p.count })) r_p
    ∙ counted_at a ps i p none there is
