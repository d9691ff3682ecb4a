-- The rows of a list with holes, one place after another.
use Rattle.std.proofs.Common.{◌≡◌, ℕ, zero, suc, ◌+◌, ◌≤◌, ◌<◌, length-append, Option, None, List, [], ◌∷◌, ◌++◌, length, get_or, take, sym, ap, ◌∙◌, append_assoc, arith}
use Rattle.std.specs.Prelude.{slice_get}
use Rattle.std.specs.Option.{option_flatten}
use Rattle.std.proofs.lemmas.Option.{slice_get-get_or}
use Rattle.std.proofs.lemmas.List.{append-nil}
use Rattle.std.specs.List.{range_with_len}

-- what a test of a place says of the element there
pub at_place : {X : Type 0} (xs : List (Option X)) (i : ℕ) → i < length xs → option_flatten (slice_get xs i) ≡ get_or xs i None
at_place xs i lt = ap option_flatten (slice_get-get_or xs i None lt)

-- one number more
last : (a n : ℕ) → range_with_len a (suc n) ≡ range_with_len a n ++ (a + n) ∷ []
last a zero = let e : a ≡ a + 0 = omega arith in ap (λ k. k ∷ []) e
last a (suc n) = let e : a + 1 + n ≡ a + suc n = omega arith in ap (λ l. a ∷ l) (last (a + 1) n ∙ ap (λ k. range_with_len (a + 1) n ++ k ∷ []) e)

pub range_more : (a n j : ℕ) → a + n ≡ j → range_with_len a (n + 1) ≡ range_with_len a n ++ j ∷ []
range_more a n j e = let on : n + 1 ≡ suc n = omega arith in ap (range_with_len a) on ∙ last a n ∙ ap (λ k. range_with_len a n ++ k ∷ []) e

-- Elements with numbers: `each` is what the element at a number gives, `from` what a list gives whose first element has a
-- number.
module _ {X Y : Type 0} (each : ℕ → X → List Y) (from : ℕ → List X → List Y)
    (none : (k : ℕ) → from k [] ≡ []) (some : (k : ℕ) (x : X) (xs : List X) → from k (x ∷ xs) ≡ each k x ++ from (suc k) xs) where
  -- one place more
  pub from_more : (k : ℕ) (xs : List X) (i : ℕ) (d : X) → i < length xs → from k (take (i + 1) xs) ≡ from k (take i xs) ++ each (k + i) (get_or xs i d)
  from_more k [] i d lt = absurd (omega (arith, lt))
  from_more k (x ∷ xs) zero d lt =
      let e : k + 0 ≡ k = omega arith in
      some k x [] ∙ ap (λ l. each k x ++ l) (none (suc k)) ∙ append-nil (each k x) ∙ ap (λ l. l ++ each k x) (sym (none k)) ∙ ap (λ n. from k [] ++ each n x) (sym e)
  from_more k (x ∷ xs) (suc i) d lt =
      let e : suc k + i ≡ k + suc i = omega arith in
      let n : suc i + 1 ≡ suc (i + 1) = omega arith in
      ap (λ m. from k (take m (x ∷ xs))) n
      ∙ some k x (take (i + 1) xs)
      ∙ ap (λ l. each k x ++ l) (from_more (suc k) xs i d (omega (arith, lt)) ∙ ap (λ m. from (suc k) (take i xs) ++ each m (get_or xs i d)) e)
      ∙ sym (append_assoc (each k x) (from (suc k) (take i xs)) (each (k + suc i) (get_or xs i d)))
      ∙ ap (λ l. l ++ each (k + suc i) (get_or xs i d)) (sym (some k x (take i xs)))

  -- one place more of all
  pub from_next : (xs : List X) (i : ℕ) (d : X) → i < length xs → from 0 (take (i + 1) xs) ≡ from 0 (take i xs) ++ each i (get_or xs i d)
  from_next xs i d lt = let e : 0 + i ≡ i = omega arith in from_more 0 xs i d lt ∙ ap (λ n. from 0 (take i xs) ++ each n (get_or xs i d)) e

  -- the first places give no more than all
  pub from_le : (k j : ℕ) (xs : List X) → length (from k (take j xs)) ≤ length (from k xs)
  from_le k zero xs = omega (arith, ap length (none k))
  from_le k (suc j) [] = omega arith
  from_le k (suc j) (x ∷ xs) =
      let a : length (from k (x ∷ take j xs)) ≡ length (each k x) + length (from (suc k) (take j xs)) = ap length (some k x (take j xs)) ∙ length-append (each k x) (from (suc k) (take j xs)) in
      let b : length (from k (x ∷ xs)) ≡ length (each k x) + length (from (suc k) xs) = ap length (some k x xs) ∙ length-append (each k x) (from (suc k) xs) in
      omega (arith, a, b, from_le (suc k) j xs)
