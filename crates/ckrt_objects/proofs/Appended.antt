-- Entries that go behind the others of a map: which maps go on so, and that each beginning of one is one.
use Rattle.std.proofs.Common.{◌≡◌, ℕ, ◌+◌, ◌≤◌, ◌<◌, ◌==◌, nat_lt, Bool, true, false, ◌&&◌, List, [], ◌∷◌, ◌++◌, length, refl, arith, length-append}
use Rattle.std.specs.List.{list_all}
use Rattle.std.proofs.lemmas.Bool.Decides.{nat_tests}
use Rattle.std.proofs.lemmas.List.Folds.{list_all-append}
use Rattle.ckrt_objects.specs.declared.address_map.Entry.{Entry}
use Rattle.ckrt_objects.specs.AddressMap.{are_above, is_rising, place_in}
use Rattle.ckrt_objects.specs.Appended.{with_last, IsTableUpTo, Appends}

module _ {T : Type 0} where
  above_last : (n : ℕ) (e : Entry T) (es : List (Entry T)) → are_above n (with_last e es) ≡ (are_above n es && nat_lt n e.address)
  above_last n e [] = grind (arith, nat_tests)
  above_last n e (x ∷ es) = grind (arith, nat_tests, above_last n e es)

  -- a rising map goes on with an entry whose place is behind all others
  pub rising_last : (e : Entry T) (es : List (Entry T)) → is_rising (with_last e es) ≡ (is_rising es && (place_in e.address es == length es))
  rising_last e [] = refl
  rising_last e (x ∷ es) = grind (arith, nat_tests, rising_last e es, above_last x.address e es)

  above_beginning : (n : ℕ) (xs ys : List (Entry T)) → are_above n (xs ++ ys) ≡ true → are_above n xs ≡ true
  above_beginning n [] ys h = refl
  above_beginning n (x ∷ xs) ys h = grind (arith, nat_tests, above_beginning n xs ys)

  -- each beginning of a rising map rises
  pub rising_beginning : (xs ys : List (Entry T)) → is_rising (xs ++ ys) ≡ true → is_rising xs ≡ true
  rising_beginning [] ys h = refl
  rising_beginning (x ∷ xs) ys h = grind (arith, nat_tests, rising_beginning xs ys, above_beginning x.address xs ys)

  -- and what all its entries are, those of a beginning are
  pub all_beginning : (p : Entry T → Bool) (xs ys : List (Entry T)) → list_all p (xs ++ ys) ≡ true → list_all p xs ≡ true
  all_beginning p xs ys h = (let e = list_all-append p xs ys in grind (arith, nat_tests, e, h))

  pub size_beginning : (n : ℕ) (xs ys : List (Entry T)) → length (xs ++ ys) ≤ n → length xs ≤ n
  size_beginning n xs ys h = omega (arith, length-append xs ys)

  -- WHAT AN APPEND SAYS

  pub length_last : (e : Entry T) (es : List (Entry T)) → length (with_last e es) ≡ length es + 1
  length_last e es = length-append es (e ∷ [])

  pub appends : (MayBe : List (Entry T) → Type 0) (e : Entry T) (es new : List (Entry T)) → new ≡ with_last e es → MayBe (with_last e es) → Appends MayBe e es new true
  appends MayBe e es new n m = record { exact = ((λ _. m), (λ _. refl)); appended = (λ _. n); refused = (λ f. absurd (cc)) }

  pub refuses : (MayBe : List (Entry T) → Type 0) (e : Entry T) (es : List (Entry T)) → (MayBe (with_last e es) → ⊥) → Appends MayBe e es es false
  refuses MayBe e es n = record { exact = ((λ f. absurd (cc)), (λ m. absurd (n m))); appended = (λ f. absurd (cc)); refused = (λ _. refl) }

  -- a map that is full
  pub refuses_full : (n : ℕ) (e : Entry T) (es : List (Entry T)) → n ≤ length es → Appends (IsTableUpTo n (λ ns. is_rising ns ≡ true)) e es es false
  refuses_full n e es f =
      refuses (IsTableUpTo n (λ ns. is_rising ns ≡ true)) e es (λ m. let l = length_last e es in let s = m.size in omega (arith, l, s, f))

  -- an address that is not above all others
  pub refuses_lower : (n : ℕ) (e : Entry T) (es : List (Entry T)) → place_in e.address es < length es → Appends (IsTableUpTo n (λ ns. is_rising ns ≡ true)) e es es false
  refuses_lower n e es l =
      refuses (IsTableUpTo n (λ ns. is_rising ns ≡ true)) e es (λ m. let r = rising_last e es in let t = m.table in grind (arith, nat_tests, r, t, l))

  pub appends_higher : (n : ℕ) (e : Entry T) (es new : List (Entry T)) → is_rising es ≡ true → length es < n → length es ≤ place_in e.address es → place_in e.address es ≤ length es
      → new ≡ with_last e es → Appends (IsTableUpTo n (λ ns. is_rising ns ≡ true)) e es new true
  appends_higher n e es new r f l u i =
      appends (IsTableUpTo n (λ ns. is_rising ns ≡ true)) e es new i
      (record {
        table = (let g = rising_last e es in grind (arith, nat_tests, g, r, l, u));
        size = (let g = length_last e es in omega (arith, g, f));
      })
