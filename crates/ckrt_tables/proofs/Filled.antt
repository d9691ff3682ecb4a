-- A list of a fixed length that is filled from the front, the rest of it being all the same.
use Rattle.std.proofs.Common.{◌≡◌, ℕ, zero, suc, ◌+◌, ◌-◌, ◌≤◌, ◌<◌, List, [], ◌∷◌, ◌++◌, length, get_or, take, replicate, Option, Some, None, slice_get, slice_set, refl, sym, ap, ◌∙◌, append_assoc, arith}
use Rattle.std.specs.Option.{option_flatten}
use Rattle.std.proofs.lemmas.List.{take_more, take_all, append-nil}

module _ {X : Type 0} (d : X) where
  -- the first k of a list of n, and nothing else yet
  abbrev pub filled : ℕ → ℕ → List X → List X
  filled n k xs = take k xs ++ replicate (n - k) d

  -- an element put behind the first ones
  put_behind : (xs : List X) (y : X) (k m : ℕ) → k + suc m ≡ length xs → slice_set (take k xs ++ replicate (suc m) d) k y ≡ take k xs ++ y ∷ replicate m d
  put_behind [] y k m e = absurd (omega (arith, e))
  put_behind (x ∷ xs) y zero m e = refl
  put_behind (x ∷ xs) y (suc k) m e = ap (λ l. x ∷ l) (put_behind xs y k m (omega (arith, e)))

  -- the first ones and the next
  one_more : (xs : List X) (k m : ℕ) → k < length xs → take k xs ++ get_or xs k d ∷ replicate m d ≡ take (k + 1) xs ++ replicate m d
  one_more xs k m lt = sym (ap (λ l. l ++ replicate m d) (take_more xs k d lt) ∙ append_assoc (take k xs) (get_or xs k d ∷ []) (replicate m d))

  module _ (n : ℕ) (xs : List X) (k : ℕ) (size : length xs ≡ n) (lt : k < n) where
    left : n - k ≡ suc (n - (k + 1))
    left = omega (arith, lt)

    pub filled_next : slice_set (filled n k xs) k (get_or xs k d) ≡ filled n (k + 1) xs
    filled_next =
        let m = n - (k + 1) in
        ap (λ j. slice_set (take k xs ++ replicate j d) k (get_or xs k d)) left ∙ put_behind xs (get_or xs k d) k m (omega (arith, lt, size)) ∙ one_more xs k m (omega (arith, lt, size))

    -- where the next element is as the rest there is nothing to put
    pub filled_same : get_or xs k d ≡ d → filled n k xs ≡ filled n (k + 1) xs
    filled_same e =
        let m = n - (k + 1) in
        ap (λ j. take k xs ++ replicate j d) left ∙ ap (λ y. take k xs ++ y ∷ replicate m d) (sym e) ∙ one_more xs k m (omega (arith, lt, size))

  -- all of them
  pub filled_all : (n : ℕ) (xs : List X) (k : ℕ) → length xs ≡ n → n ≤ k → filled n k xs ≡ xs
  filled_all n xs k size le =
      let none : n - k ≡ 0 = omega (arith, le) in
      ap (λ j. take k xs ++ replicate j d) none ∙ append-nil (take k xs) ∙ take_all k xs (omega (arith, size, le))

-- LISTS OF WHAT MAY BE ABSENT

abbrev pub nones : {X : Type 0} → ℕ → List (Option X)
nones m = replicate m None

pub none_among : {X : Type 0} (m i : ℕ) → option_flatten (slice_get (nones {X = X} m) i) ≡ None
none_among zero i = refl
none_among (suc m) zero = refl
none_among (suc m) (suc i) = none_among m i

not_some : {X : Type 0} (m i : ℕ) (u : X) → option_flatten (slice_get (nones m) i) ≡ Some u → ⊥
not_some m i u e = (let same : None ≡ Some u = sym (none_among m i) ∙ e in cc)

-- behind the first ones there is none
pub none_behind : {X : Type 0} (xs : List (Option X)) (k m i : ℕ) → k ≤ i → option_flatten (slice_get (take k xs ++ replicate m None) i) ≡ None
none_behind [] zero m i l = none_among m i
none_behind [] (suc k) m i l = none_among m i
none_behind (x ∷ xs) zero m i l = none_among m i
none_behind (x ∷ xs) (suc k) m zero l = absurd (omega (arith, l))
none_behind (x ∷ xs) (suc k) m (suc i) l = none_behind xs k m i (omega (arith, l))

-- what is among the first ones is in the list
pub some_among : {X : Type 0} (xs : List (Option X)) (k m i : ℕ) (u : X) → option_flatten (slice_get (take k xs ++ replicate m None) i) ≡ Some u → option_flatten (slice_get xs i) ≡ Some u
some_among [] zero m i u e = absurd (not_some m i u e)
some_among [] (suc k) m i u e = absurd (not_some m i u e)
some_among (x ∷ xs) zero m i u e = absurd (not_some m i u e)
some_among (x ∷ xs) (suc k) m zero u e = e
some_among (x ∷ xs) (suc k) m (suc i) u e = some_among xs k m i u e
