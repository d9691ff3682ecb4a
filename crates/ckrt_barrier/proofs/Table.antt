-- The table of barriers after a change.
use Rattle.std.proofs.Common.{◌≡◌, ℕ, ◌+◌, ◌≤◌, eqb, nat_lt, true, false, List, [], ◌∷◌, length, arith}
use Rattle.std.proofs.lemmas.Bool.Decides.{nat_tests}
use Rattle.ckrt_objects.specs.declared.address_map.Entry.{Entry}
use Rattle.ckrt_objects.specs.AddressMap.{has_entry, is_rising, stored, removed}
use Rattle.ckrt_objects.proofs.AddressMap.{above_no_entry, rising_stored, rising_removed, all_stored, all_removed}
use Rattle.ckrt_barrier.specs.declared.barrier.Barrier.{Barrier}
use Rattle.ckrt_barrier.specs.Rows.{is_full}
use Rattle.ckrt_barrier.specs.WellFormed.{IsTable}

module _ {T : Type 0} where
  removed_length : (a : ℕ) (es : List (Entry T)) → length (removed a es) ≤ length es
  removed_length a [] = omega arith
  removed_length a (e ∷ es) = grind (arith, nat_tests, removed_length a es)

  stored_length : (a : ℕ) (v : T) (es : List (Entry T)) → length (stored a v es) ≤ length es + 1
  stored_length a v [] = omega arith
  stored_length a v (e ∷ es) = grind (arith, nat_tests, stored_length a v es)

  -- an entry takes the place of the address's own
  stored_over : (a : ℕ) (v : T) (es : List (Entry T)) → is_rising es ≡ true → has_entry a es ≡ true → length (stored a v es) ≡ length es
  stored_over a v [] r h = absurd (cc)
  stored_over a v (e ∷ es) r h = grind (arith, nat_tests, stored_over a v es, above_no_entry e.address a es)

pub table_stored : (b n : ℕ) (bs : List (Entry Barrier)) → eqb n 0 ≡ false → is_full b bs ≡ false → IsTable bs → IsTable (stored b (record { count = n }) bs)
table_stored b n bs z f t = record {
  rising = rising_stored b (record { count = n }) bs t.rising;
  at_most_64 = grind (arith, nat_tests, t.at_most_64, stored_length b (record { count = n }) bs, stored_over b (record { count = n }) bs t.rising);
  counts = all_stored (λ e. nat_lt 0 e.value.count) b (record { count = n }) bs (grind (arith, nat_tests)) t.counts;
}

pub table_removed : (b : ℕ) (bs : List (Entry Barrier)) → IsTable bs → IsTable (removed b bs)
table_removed b bs t = record {
  rising = rising_removed b bs t.rising;
  at_most_64 = (let l = removed_length b bs in omega (arith, l, t.at_most_64));
  counts = all_removed (λ e. nat_lt 0 e.value.count) b bs t.counts;
}
