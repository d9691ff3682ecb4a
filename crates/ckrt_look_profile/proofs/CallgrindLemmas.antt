-- The rows from a number on.
use Rattle.std.proofs.Common.{◌≡◌, ◌≢◌, ◌<◌, ◌≤◌, ℕ, zero, suc, ◌+◌, ◌==◌, Bool, true, false, if◌then◌else◌, Option, subst, List, [], ◌∷◌, length, drop, get_or, slice_get, Some, refl, sym, ap, ◌∙◌, arith, add-one}
use Rattle.std.proofs.lemmas.Option.{slice_get-get_or}
use Rattle.ckrt_look_profile.specs.declared.row.Row.{Row}
use Rattle.std.proofs.lemmas.Bool.Decides.{nat_tests}
use Rattle.std.specs.Io.KnownBytes.{Appends}
use Rattle.ckrt_look_calls.proofs.AppendLemmas.{Completes, completes_all, completes_more}
use Rattle.ckrt_look_profile.specs.Callgrind.{rest_line, rest_text, row_text, rows_text, whole_behind, with_row}

ahead : {X : Type 0} (xs : List X) (i : ℕ) (x : X) → slice_get xs i ≡ Some x → drop i xs ≡ x ∷ drop (suc i) xs
ahead [] i x is = absurd (cc)
ahead (y ∷ xs) zero x is = (let same : y ≡ x = cc in ap (λ z. z ∷ xs) same)
ahead (y ∷ xs) (suc i) x is = ahead xs i x is

-- the row of a number, and those behind it
pub next_row : {X : Type 0} (xs : List X) (i : ℕ) (x : X) → x ≡ get_or xs i x → i < length xs → drop i xs ≡ x ∷ drop (i + 1) xs
next_row xs i x read lt = ahead xs i x (slice_get-get_or xs i x lt ∙ ap (λ y. Some y) (sym read)) ∙ ap (λ j. x ∷ drop j xs) (sym (add-one i))

pub none_ahead : {X : Type 0} (xs : List X) (i : ℕ) → length xs ≤ i → drop i xs ≡ []
none_ahead [] zero le = refl
none_ahead [] (suc i) le = refl
none_ahead (x ∷ xs) zero le = absurd (omega arith)
none_ahead (x ∷ xs) (suc i) le = none_ahead xs i (omega arith)

pub whole_next : (rows : List Row) (k i n : ℕ) (r : Row) → r ≡ get_or rows i r → i < length rows
    → whole_behind rows k i n (drop i rows) ≡ whole_behind rows k (i + 1) (with_row rows k i r n) (drop (i + 1) rows)
whole_next rows k i n r read lt = ap (whole_behind rows k i n) (next_row rows i r read lt)

pub whole_all : (rows : List Row) (k i n : ℕ) → length rows ≤ i → whole_behind rows k i n (drop i rows) ≡ n
whole_all rows k i n le = ap (whole_behind rows k i n) (none_ahead rows i le)

-- one row more was written
pub completes_row : (rows : List Row) (k i : ℕ) (d : Row) (a b z : Option (List ℕ)) (all : List ℕ) → i < length rows → Completes a b (rows_text rows k (drop i rows)) all
    → Appends b z (row_text rows k (get_or rows i d)) → Completes a z (rows_text rows (k + 1) (drop (i + 1) rows)) all
completes_row rows k i d a b z all lt so_far new =
    let r = get_or rows i d in
    let next : drop i rows ≡ r ∷ drop (i + 1) rows = ahead rows i r (slice_get-get_or rows i d lt) ∙ ap (λ j. r ∷ drop j rows) (sym (add-one i)) in
    completes_more a b z (row_text rows k r) (rows_text rows (k + 1) (drop (i + 1) rows)) all (subst (λ l. Completes a b (rows_text rows k l) all) next so_far) new

-- all were
pub completes_rows : (rows : List Row) (k i : ℕ) (a b : Option (List ℕ)) (all : List ℕ) → length rows ≤ i → Completes a b (rows_text rows k (drop i rows)) all → Appends a b all
completes_rows rows k i a b all le so_far = completes_all a b all (subst (λ l. Completes a b (rows_text rows k l) all) (none_ahead rows i le) so_far)

-- there are steps without a row
pub some_rest : (n : ℕ) → n ≢ 0 → rest_text n ≡ rest_line n
some_rest n some = go (n == 0) refl
  where
    go : (t : Bool) → (n == 0) ≡ t → (if t then [] else rest_line n) ≡ rest_line n
    go true is = absurd (some (grind (arith, nat_tests, is)))
    go false is = refl
