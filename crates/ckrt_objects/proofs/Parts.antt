-- A part of a map: the entries that pass a test.
use Rattle.std.proofs.Common.{◌≡◌, ℕ, ◌≤◌, Bool, true, false, List, [], ◌∷◌, length, refl, arith}
use Rattle.std.specs.List.{filter, list_all}
use Rattle.std.proofs.lemmas.Bool.Decides.{nat_tests}
use Rattle.ckrt_thread.specs.declared.records.Wait.{Wait}
use Rattle.ckrt_objects.specs.declared.address_map.Entry.{Entry}
use Rattle.ckrt_objects.specs.AddressMap.{has_entry, removed, are_above, is_rising}
use Rattle.ckrt_objects.specs.Appended.{with_last}
use Rattle.ckrt_objects.specs.InUse.{addresses_in_use, count_in_use}
use Rattle.ckrt_objects.proofs.AddressMap.{above_no_entry, not_removed}
use Rattle.ckrt_objects.proofs.InUse.{any_in_use, distinct_le}
use Rattle.std.specs.Prelude.{Option}

module _ {T : Type 0} (p : Entry T → Bool) where
  pub above_part : (n : ℕ) (es : List (Entry T)) → are_above n es ≡ true → are_above n (filter p es) ≡ true
  above_part n [] h = refl
  above_part n (e ∷ es) h = grind (arith, nat_tests, above_part n es)

  pub rising_part : (es : List (Entry T)) → is_rising es ≡ true → is_rising (filter p es) ≡ true
  rising_part [] h = refl
  rising_part (e ∷ es) h = grind (arith, nat_tests, rising_part es, above_part e.address es)

  pub all_part : (q : Entry T → Bool) (es : List (Entry T)) → list_all q es ≡ true → list_all q (filter p es) ≡ true
  all_part q [] h = refl
  all_part q (e ∷ es) h = grind (arith, nat_tests, all_part q es)

  pub part_all : (es : List (Entry T)) → list_all p (filter p es) ≡ true
  part_all [] = refl
  part_all (e ∷ es) = grind (arith, nat_tests, part_all es)

  pub part_twice : (es : List (Entry T)) → filter p (filter p es) ≡ filter p es
  part_twice [] = refl
  part_twice (e ∷ es) = grind (arith, nat_tests, part_twice es)

  pub length_part : (es : List (Entry T)) → length (filter p es) ≤ length es
  length_part [] = omega arith
  length_part (e ∷ es) = grind (arith, nat_tests, length_part es)

  pub last_part : (e : Entry T) (es : List (Entry T)) → p e ≡ true → filter p (with_last e es) ≡ with_last e (filter p es)
  last_part e [] h = grind (arith, nat_tests)
  last_part e (x ∷ es) h = grind (arith, nat_tests, last_part e es)

  pub entry_part : (a : ℕ) (es : List (Entry T)) → has_entry a (filter p es) ≡ true → has_entry a es ≡ true
  entry_part a [] h = h
  entry_part a (e ∷ es) h = grind (arith, nat_tests, entry_part a es)

  pub no_entry_part : (n a : ℕ) (es : List (Entry T)) → a ≤ n → are_above n es ≡ true → has_entry a (filter p es) ≡ false
  no_entry_part n a es l h = above_no_entry n a (filter p es) l (above_part n es h)

  -- taking an entry out and taking the part go in either order
  pub removed_part : (a : ℕ) (es : List (Entry T)) → is_rising es ≡ true → filter p (removed a es) ≡ removed a (filter p es)
  removed_part a [] h = refl
  removed_part a (e ∷ es) h =
      let none = not_removed a (filter p es) in
      let above = no_entry_part e.address a es in
      grind (arith, nat_tests, removed_part a es, none, above)

  -- no more are in use where only the part counts
  pub count_part : (name_of : Wait → Option ℕ) (ws : List Wait) (es : List (Entry T)) → count_in_use name_of ws (filter p es) ≤ count_in_use name_of ws es
  count_part name_of ws es =
      distinct_le (addresses_in_use name_of ws (filter p es)) (addresses_in_use name_of ws es)
      (λ q h. grind (arith, nat_tests, any_in_use name_of q ws es, any_in_use name_of q ws (filter p es), entry_part q es, h))
