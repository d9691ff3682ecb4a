-- Rows of what was found, one by one.
use Rattle.std.proofs.Common.{◌≡◌, ◌≤◌, ◌<◌, ℕ, zero, suc, ◌+◌, ◌||◌, Bool, true, false, if◌then◌else◌, List, [], ◌∷◌, ◌++◌, length, take, get_or, slice_get, slice_set, nat_lt, Some, refl, sym, ap, ◌∙◌, subst, add-one, arith}
use Rattle.std.proofs.lemmas.Bool.Decides.{nat_tests}
use Rattle.std.proofs.lemmas.List.{take_all}
use Rattle.std.proofs.lemmas.List.Folds.{list_any_more}
use Rattle.std.proofs.lemmas.Option.{slice_get-get_or}
use Rattle.std.specs.List.{list_any}
use Rattle.ckrt_hunt_looks.specs.declared.row.FoundRow.{FoundRow}
use Rattle.ckrt_hunt_looks.specs.declared.row.TheConstants.{FOUND_ROWS}
use Rattle.ckrt_hunt_looks.specs.Rows.{Kind, counted, first_row, has_place, one_more, with_found, with_row}

-- THE ROW THAT COUNTS ONE RUN MORE

-- a choice by a test that is known
pub chosen : {X : Type 0} (t : Bool) (x y : X) → t ≡ true → (if t then x else y) ≡ x
chosen true x y is = refl
chosen false x y is = absurd (cc)

pub passed_over : {X : Type 0} (t : Bool) (x y : X) → t ≡ false → (if t then x else y) ≡ y
passed_over false x y is = refl
passed_over true x y is = absurd (cc)

either : (t u : Bool) → t ≡ false → (t || u) ≡ u
either false u is = refl
either true u is = absurd (cc)

first_false : (t u : Bool) → (t || u) ≡ false → t ≡ false
first_false false u is = refl
first_false true u is = absurd (cc)

second_false : (t u : Bool) → (t || u) ≡ false → u ≡ false
second_false false u is = is
second_false true u is = absurd (cc)

true_first : (t u : Bool) → t ≡ true → (t || u) ≡ true
true_first true u is = refl
true_first false u is = absurd (cc)

pub any_at : {F : Type 0} (k : Kind F) (a : F) (ps : List (FoundRow F)) (i : ℕ) (p : FoundRow F) → slice_get ps i ≡ Some p → has_place k a p ≡ true → list_any (has_place k a) ps ≡ true
any_at k a [] i p there is = absurd (cc)
any_at k a (q ∷ ps) zero p there is = (let same : q ≡ p = cc in true_first (has_place k a q) (list_any (has_place k a) ps) (ap (has_place k a) same ∙ is))
any_at k a (q ∷ ps) (suc i) p there is = (let rest = any_at k a ps i p there is in go (has_place k a q) rest)
  where
    go : (t : Bool) → list_any (has_place k a) ps ≡ true → (t || list_any (has_place k a) ps) ≡ true
    go true r = refl
    go false r = r

pub counted_at : {F : Type 0} (k : Kind F) (a : F) (ps : List (FoundRow F)) (i : ℕ) (p : FoundRow F) → list_any (has_place k a) (take i ps) ≡ false → slice_get ps i ≡ Some p → has_place k a p ≡ true → slice_set ps i (record p { count = one_more p.count }) ≡ counted k a ps
counted_at k a [] i p none there is = absurd (cc)
counted_at k a (q ∷ ps) zero p none there is = (let same : q ≡ p = cc in
    subst (λ r. slice_set (q ∷ ps) 0 (record r { count = one_more r.count }) ≡ counted k a (q ∷ ps)) same
    (sym (chosen (has_place k a q) (record q { count = one_more q.count } ∷ ps) (q ∷ counted k a ps) (ap (has_place k a) same ∙ is))))
counted_at k a (q ∷ ps) (suc i) p none there is =
    ap (λ l. q ∷ l) (counted_at k a ps i p (second_false (has_place k a q) (list_any (has_place k a) (take i ps)) none) there is)
    ∙ sym (passed_over (has_place k a q) (record q { count = one_more q.count } ∷ ps) (q ∷ counted k a ps) (first_false (has_place k a q) (list_any (has_place k a) (take i ps)) none))

more : {F : Type 0} (k : Kind F) (a : F) (ps : List (FoundRow F)) (i : ℕ) (p : FoundRow F) → list_any (has_place k a) (take i ps) ≡ false → slice_get ps i ≡ Some p → has_place k a p ≡ false → list_any (has_place k a) (take (suc i) ps) ≡ false
more k a [] i p none there is = refl
more k a (q ∷ ps) zero p none there is = (let same : q ≡ p = cc in either (has_place k a q) false (ap (has_place k a) same ∙ is))
more k a (q ∷ ps) (suc i) p none there is =
    either (has_place k a q) (list_any (has_place k a) (take (suc i) ps)) (first_false (has_place k a q) (list_any (has_place k a) (take i ps)) none)
    ∙ more k a ps i p (second_false (has_place k a q) (list_any (has_place k a) (take i ps)) none) there is

pub none_more : {F : Type 0} (k : Kind F) (a : F) (ps : List (FoundRow F)) (i : ℕ) (p : FoundRow F) → list_any (has_place k a) (take i ps) ≡ false → slice_get ps i ≡ Some p → has_place k a p ≡ false → list_any (has_place k a) (take (i + 1) ps) ≡ false
none_more k a ps i p none there is = ap (λ n. list_any (has_place k a) (take n ps)) (add-one i) ∙ more k a ps i p none there is

pub counted_none : {F : Type 0} (k : Kind F) (a : F) (ps : List (FoundRow F)) → list_any (has_place k a) ps ≡ false → counted k a ps ≡ ps
counted_none k a [] none = refl
counted_none k a (q ∷ ps) none =
    passed_over (has_place k a q) (record q { count = one_more q.count } ∷ ps) (q ∷ counted k a ps) (first_false (has_place k a q) (list_any (has_place k a) ps) none)
    ∙ ap (λ l. q ∷ l) (counted_none k a ps (second_false (has_place k a q) (list_any (has_place k a) ps) none))

pub none_in_all : {F : Type 0} (k : Kind F) (a : F) (ps : List (FoundRow F)) (i : ℕ) → length ps ≤ i → list_any (has_place k a) (take i ps) ≡ false → list_any (has_place k a) ps ≡ false
none_in_all k a ps i le none = ap (list_any (has_place k a)) (sym (take_all i ps le)) ∙ none

-- what was read of a list that is another
pub read_at : {X : Type 0} (xs ys : List X) (i : ℕ) (p : X) → xs ≡ ys → p ≡ get_or xs i p → i < length xs → slice_get ys i ≡ Some p
read_at xs ys i p same is lt = ap (λ l. slice_get l i) (sym same) ∙ slice_get-get_or xs i p lt ∙ ap (λ q. Some q) (sym is)

-- the row of these places, with another count
pub counts_on : {F : Type 0} (k : Kind F) (a : F) (xs ps : List (FoundRow F)) (i n : ℕ) (p q r : FoundRow F) → xs ≡ ps → p ≡ get_or xs i p → q ≡ get_or xs i q → r ≡ get_or xs i r → i < length xs
    → list_any (has_place k a) (take i ps) ≡ false → has_place k a p ≡ true → n ≡ one_more q.count
    → slice_set xs i (record r { count = n }) ≡ counted k a ps
counts_on {F = F} k a xs ps i n p q r same is_p is_q is_r lt none is is_n =
    let there = read_at xs ps i p same is_p lt in
    let q_p : q ≡ p = (let one = read_at xs ps i q same is_q lt in cc) in
    let r_p : r ≡ p = (let one = read_at xs ps i r same is_r lt in cc) in
    ap (λ l. slice_set l i (record r { count = n })) same
    ∙ ap (λ m. slice_set ps i (record r { count = m })) (is_n ∙ ap (λ (z : FoundRow F). one_more z.count) q_p)
    ∙ ap (λ (z : FoundRow F). slice_set ps i (record z { count = one_more p.count })) r_p
    ∙ counted_at k a ps i p none there is

-- ONE THAT WAS FOUND

-- that gets a row
pub found_first : {F : Type 0} (seed : ℕ) (k : Kind F) (p : F) (rs now new : List (FoundRow F)) → list_any (has_place k p) rs ≡ false → now ≡ counted k p rs → length now < FOUND_ROWS → new ≡ now ++ first_row seed p ∷ [] → new ≡ with_found k seed p rs
found_first seed k p rs now new none same less is =
    let as_it_was : now ≡ rs = same ∙ counted_none k p rs none in
    let is_less : nat_lt (length rs) FOUND_ROWS ≡ true = grind (arith, nat_tests, ap length as_it_was, less) in
    is ∙ ap (λ l. l ++ first_row seed p ∷ []) as_it_was
    ∙ sym (chosen (nat_lt (length rs) FOUND_ROWS) (rs ++ first_row seed p ∷ []) rs is_less)
    ∙ sym (passed_over (list_any (has_place k p) rs) (counted k p rs) (with_row seed p rs) none)

-- and for which none is left
pub found_full : {F : Type 0} (seed : ℕ) (k : Kind F) (p : F) (rs now : List (FoundRow F)) → list_any (has_place k p) rs ≡ false → now ≡ counted k p rs → FOUND_ROWS ≤ length now → now ≡ with_found k seed p rs
found_full seed k p rs now none same all =
    let as_it_was : now ≡ rs = same ∙ counted_none k p rs none in
    let is_full : nat_lt (length rs) FOUND_ROWS ≡ false = grind (arith, nat_tests, ap length as_it_was, all) in
    as_it_was
    ∙ sym (passed_over (nat_lt (length rs) FOUND_ROWS) (rs ++ first_row seed p ∷ []) rs is_full)
    ∙ sym (passed_over (list_any (has_place k p) rs) (counted k p rs) (with_row seed p rs) none)

-- one element more, of which none has the property
pub any_more : {X : Type 0} (t : X → Bool) (xs : List X) (i : ℕ) (d : X) → i < length xs → list_any t (take i xs) ≡ false → t (get_or xs i d) ≡ false → list_any t (take (i + 1) xs) ≡ false
any_more t xs i d lt none is = list_any_more t xs i d lt ∙ either (list_any t (take i xs)) (t (get_or xs i d)) none ∙ is

pub none_of : {X : Type 0} (t : X → Bool) (xs : List X) (i : ℕ) → length xs ≤ i → list_any t (take i xs) ≡ false → list_any t xs ≡ false
none_of t xs i le none = ap (list_any t) (sym (take_all i xs le)) ∙ none
