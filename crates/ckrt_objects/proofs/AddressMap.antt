-- Where an address has its entry, and what a change of the map leaves.
use Rattle.std.proofs.Common.{◌≡◌, ℕ, zero, suc, ◌≤◌, ◌<◌, eqb, Bool, true, false, if◌then◌else◌, nat_lt, List, [], ◌∷◌, length, Some, None, Option, refl, ◌∙◌, arith, get_or, slice_get, slice_index_or, slice_set}
use Rattle.std.specs.Prelude.{unwrap_or}
use Rattle.std.specs.List.{remove, insert, list_all, refill}
use Rattle.std.specs.List.Sorted.{IsPartitionPoint, IsPartitionedBy}
use Rattle.std.proofs.lemmas.Bool.Decides.{nat_tests}
use Rattle.std.proofs.lemmas.List.{length-set}
use Rattle.arrayvec.proofs.ArrayVecLemmas.{items-with_items}
use Rattle.ckrt_objects.specs.declared.address_map.Entry.{Entry}
use Rattle.ckrt_objects.specs.AddressMap.{is_at, has_entry, lookup, removed, stored, are_above, is_rising, has_room, place_in, is_entry_of}

unwrapped : {T : Type 0} (p : T → Bool) (b : Bool) (v : T) (o : Option T) (d : T) → p v ≡ true → p (unwrap_or o d) ≡ true → p (unwrap_or (if b then Some v else o) d) ≡ true
unwrapped p true v o d pv po = pv
unwrapped p false v o d pv po = po

module _ {T : Type 0} where
  -- THE PLACE of an address

  above_at : (n : ℕ) (es : List (Entry T)) (i : ℕ) (d : Entry T) → are_above n es ≡ true → i < length es → n < (get_or es i d).address
  above_at n [] i d h l = absurd (omega arith)
  above_at n (e ∷ es) zero d h l = grind (arith, nat_tests)
  above_at n (e ∷ es) (suc i) d h l = above_at n es i d (grind (arith, nat_tests)) (omega arith)

  -- the lower addresses come first
  pub partitioned : (a : ℕ) (es : List (Entry T)) → is_rising es ≡ true → IsPartitionedBy (λ e. nat_lt e.address a) es
  partitioned a [] h i j d le l p = absurd (omega arith)
  partitioned a (e ∷ es) h zero zero d le l p = p
  partitioned a (e ∷ es) h zero (suc j) d le l p = grind (arith, nat_tests, above_at e.address es j d)
  partitioned a (e ∷ es) h (suc i) zero d le l p = absurd (omega arith)
  partitioned a (e ∷ es) h (suc i) (suc j) d le l p = partitioned a es (grind (arith, nat_tests)) i j d (omega arith) (omega arith) p

  pub place_of_point : (a : ℕ) (es : List (Entry T)) (i : ℕ) → i ≤ length es → IsPartitionPoint (λ e. nat_lt e.address a ≡ true) (λ e. nat_lt e.address a ≡ false) es i → i ≡ place_in a es
  place_of_point a [] i l p = omega arith
  place_of_point a (e ∷ es) zero l p = grind (arith, nat_tests, p.1 0 e)
  place_of_point a (e ∷ es) (suc i) l p =
      let first = p.0 0 e (omega arith) (omega arith) in
      let rest = place_of_point a es i (omega arith) ((λ k d _ below. p.0 (suc k) d (omega arith) (omega arith)), (λ k d from below. p.1 (suc k) d (omega arith) (omega arith))) in
      grind (arith, nat_tests)

  pub above_no_entry : (n a : ℕ) (es : List (Entry T)) → a ≤ n → are_above n es ≡ true → has_entry a es ≡ false
  above_no_entry n a [] l h = refl
  above_no_entry n a (e ∷ es) l h = grind (arith, nat_tests, above_no_entry n a es)

  -- an address has an entry where the one at its place is its own
  pub entry_at_place : (a : ℕ) (es : List (Entry T)) (i : ℕ) → is_rising es ≡ true → i ≡ place_in a es → is_entry_of a (slice_get es i) ≡ has_entry a es
  entry_at_place a [] i h e = refl
  entry_at_place a (x ∷ es) zero h e = grind (arith, nat_tests, above_no_entry x.address a es)
  entry_at_place a (x ∷ es) (suc i) h e =
      let rest : i ≡ place_in a es → is_entry_of a (slice_get es i) ≡ has_entry a es = entry_at_place a es i (grind (arith, nat_tests)) in
      grind (arith, nat_tests, rest)

  entry_above : (n a : ℕ) (es : List (Entry T)) (i : ℕ) → are_above n es ≡ true → is_entry_of a (slice_get es i) ≡ true → n < a
  entry_above n a [] i h t = absurd (cc)
  entry_above n a (x ∷ es) zero h t = grind (arith, nat_tests)
  entry_above n a (x ∷ es) (suc i) h t = entry_above n a es i (grind (arith, nat_tests)) t

  -- in a rising map every entry is at the place of its address
  pub entry_is_placed : (a : ℕ) (es : List (Entry T)) (i : ℕ) → is_rising es ≡ true → is_entry_of a (slice_get es i) ≡ true → i ≡ place_in a es
  entry_is_placed a [] i h t = absurd (cc)
  entry_is_placed a (x ∷ es) zero h t = grind (arith, nat_tests)
  entry_is_placed a (x ∷ es) (suc i) h t =
      let rest = entry_is_placed a es i (grind (arith, nat_tests)) t in
      let below : x.address < a = entry_above x.address a es i (grind (arith, nat_tests)) t in
      grind (arith, nat_tests, rest, below)

  -- where an entry is, there is a place
  pub entry_within : (a : ℕ) (es : List (Entry T)) (i : ℕ) → is_entry_of a (slice_get es i) ≡ true → i < length es
  entry_within a [] i t = absurd (cc)
  entry_within a (x ∷ es) zero t = omega arith
  entry_within a (x ∷ es) (suc i) t = let rest = entry_within a es i t in omega arith

  pub no_lookup : (a : ℕ) (es : List (Entry T)) → has_entry a es ≡ false → lookup a es ≡ None
  no_lookup a [] h = refl
  no_lookup a (e ∷ es) h = grind (arith, nat_tests, no_lookup a es)

  pub not_removed : (a : ℕ) (es : List (Entry T)) → has_entry a es ≡ false → removed a es ≡ es
  not_removed a [] h = refl
  not_removed a (e ∷ es) h = grind (arith, nat_tests, not_removed a es)

  pub lookup_nowhere : (a : ℕ) (es : List (Entry T)) (i : ℕ) → is_rising es ≡ true → i ≡ place_in a es → is_entry_of a (slice_get es i) ≡ false → lookup a es ≡ None
  lookup_nowhere a es i h e n = no_lookup a es (grind (arith, entry_at_place a es i h e))

  pub removed_nowhere : (a : ℕ) (es : List (Entry T)) (i : ℕ) → is_rising es ≡ true → i ≡ place_in a es → is_entry_of a (slice_get es i) ≡ false → removed a es ≡ es
  removed_nowhere a es i h e n = not_removed a es (grind (arith, entry_at_place a es i h e))

  pub room_for_new : (n a : ℕ) (es : List (Entry T)) (i : ℕ) → is_rising es ≡ true → i ≡ place_in a es → is_entry_of a (slice_get es i) ≡ false → has_room n a es ≡ true → length es < n
  room_for_new n a es i h e f r = grind (arith, nat_tests, entry_at_place a es i h e)

  pub lookup_there : (a : ℕ) (es : List (Entry T)) (i : ℕ) (d : Entry T) → i ≡ place_in a es → is_entry_of a (slice_get es i) ≡ true → lookup a es ≡ Some (slice_index_or es i d).value
  lookup_there a [] i d e t = absurd (cc)
  lookup_there a (x ∷ es) zero d e t = grind (arith, nat_tests)
  lookup_there a (x ∷ es) (suc i) d e t =
      let rest : i ≡ place_in a es → lookup a es ≡ Some (slice_index_or es i d).value = λ q. lookup_there a es i d q t in
      grind (arith, nat_tests, rest)

  pub removed_there : (a : ℕ) (es : List (Entry T)) (i : ℕ) → i ≡ place_in a es → is_entry_of a (slice_get es i) ≡ true → remove es i ≡ removed a es
  removed_there a [] i e t = absurd (cc)
  removed_there a (x ∷ es) zero e t = grind (arith, nat_tests)
  removed_there a (x ∷ es) (suc i) e t =
      let rest : i ≡ place_in a es → remove es i ≡ removed a es = λ q. removed_there a es i q t in
      grind (arith, nat_tests, rest)

  pub stored_there : (a : ℕ) (v : T) (es : List (Entry T)) (i : ℕ) → i ≡ place_in a es → is_entry_of a (slice_get es i) ≡ true → slice_set es i (record { address = a; value = v }) ≡ stored a v es
  stored_there a v [] i e t = absurd (cc)
  stored_there a v (x ∷ es) zero e t = grind (arith, nat_tests)
  stored_there a v (x ∷ es) (suc i) e t =
      let rest : i ≡ place_in a es → slice_set es i (record { address = a; value = v }) ≡ stored a v es = λ q. stored_there a v es i q t in
      grind (arith, nat_tests, rest)

  pub stored_new : (a : ℕ) (v : T) (es : List (Entry T)) (i : ℕ) → i ≡ place_in a es → is_entry_of a (slice_get es i) ≡ false → insert es i (record { address = a; value = v }) ≡ stored a v es
  stored_new a v [] zero e t = refl
  stored_new a v [] (suc i) e t = absurd (omega arith)
  stored_new a v (x ∷ es) zero e t = grind (arith, nat_tests)
  stored_new a v (x ∷ es) (suc i) e t =
      let rest : i ≡ place_in a es → insert es i (record { address = a; value = v }) ≡ stored a v es = λ q. stored_new a v es i q t in
      grind (arith, nat_tests, rest)

  -- what is stored has the place that it had
  pub place_stored : (a : ℕ) (v : T) (es : List (Entry T)) → place_in a (stored a v es) ≡ place_in a es
  place_stored a v [] = grind (arith, nat_tests)
  place_stored a v (e ∷ es) = grind (arith, nat_tests, place_stored a v es)

  -- the same, written through a slice that was lent
  pub stored_through : (a : ℕ) (v : T) (es shown seen lent : List (Entry T)) (i : ℕ) → shown ≡ es → seen ≡ es → lent ≡ es → i ≡ place_in a shown → is_entry_of a (slice_get seen i) ≡ true
      → refill (length es) es (slice_set lent i (record { address = a; value = v })) ≡ stored a v es
  stored_through a v es shown seen lent i s n l e t =
      rw l (items-with_items (record { items = es }) _ (length-set es i _) ∙ stored_there a v es i (rw s at e) (rw n at t))

  -- WHAT A CHANGE LEAVES

  pub lookup_stored : (a b : ℕ) (v : T) (es : List (Entry T)) → lookup b (stored a v es) ≡ (if eqb a b then Some v else lookup b es)
  lookup_stored a b v [] = grind (arith, nat_tests)
  lookup_stored a b v (e ∷ es) = grind (arith, nat_tests, lookup_stored a b v es)

  pub none_removed : (a : ℕ) (es : List (Entry T)) → is_rising es ≡ true → has_entry a (removed a es) ≡ false
  none_removed a [] h = refl
  none_removed a (e ∷ es) h = grind (arith, nat_tests, none_removed a es, above_no_entry e.address a es)

  other_removed : (a b : ℕ) (es : List (Entry T)) → eqb a b ≡ false → lookup b (removed a es) ≡ lookup b es
  other_removed a b [] h = refl
  other_removed a b (e ∷ es) h = grind (arith, nat_tests, other_removed a b es)

  pub lookup_removed : (a b : ℕ) (es : List (Entry T)) → is_rising es ≡ true → lookup b (removed a es) ≡ (if eqb a b then None else lookup b es)
  lookup_removed a b es h = grind (arith, nat_tests, other_removed a b es, no_lookup a (removed a es), none_removed a es h)

  pub entry_removed : (a b : ℕ) (es : List (Entry T)) → has_entry b (removed a es) ≡ true → has_entry b es ≡ true
  entry_removed a b [] h = absurd (cc)
  entry_removed a b (e ∷ es) h = grind (arith, nat_tests, entry_removed a b es)

  pub entry_stored : (a b : ℕ) (v : T) (es : List (Entry T)) → has_entry b (stored a v es) ≡ true → eqb b a ≡ false → has_entry b es ≡ true
  entry_stored a b v [] h n = grind (arith, nat_tests)
  entry_stored a b v (e ∷ es) h n = grind (arith, nat_tests, entry_stored a b v es)

  above_removed : (n a : ℕ) (es : List (Entry T)) → are_above n es ≡ true → are_above n (removed a es) ≡ true
  above_removed n a [] h = refl
  above_removed n a (e ∷ es) h = grind (arith, nat_tests, above_removed n a es)

  pub rising_removed : (a : ℕ) (es : List (Entry T)) → is_rising es ≡ true → is_rising (removed a es) ≡ true
  rising_removed a [] h = refl
  rising_removed a (e ∷ es) h = grind (arith, nat_tests, rising_removed a es, above_removed e.address a es)

  above_stored : (n a : ℕ) (v : T) (es : List (Entry T)) → n < a → are_above n es ≡ true → are_above n (stored a v es) ≡ true
  above_stored n a v [] l h = grind (arith, nat_tests)
  above_stored n a v (e ∷ es) l h = grind (arith, nat_tests, above_stored n a v es)

  pub above_weaker : (n k : ℕ) (es : List (Entry T)) → k ≤ n → are_above n es ≡ true → are_above k es ≡ true
  above_weaker n k [] l h = refl
  above_weaker n k (e ∷ es) l h = grind (arith, nat_tests, above_weaker n k es)

  above_same : (n k : ℕ) (es : List (Entry T)) → k ≡ n → are_above n es ≡ true → are_above k es ≡ true
  above_same n k es e h = above_weaker n k es (omega arith) h

  pub rising_stored : (a : ℕ) (v : T) (es : List (Entry T)) → is_rising es ≡ true → is_rising (stored a v es) ≡ true
  rising_stored a v [] h = refl
  rising_stored a v (e ∷ es) h = grind (arith, nat_tests, rising_stored a v es, above_stored e.address a v es, above_weaker e.address a es)

  pub all_removed : (p : Entry T → Bool) (a : ℕ) (es : List (Entry T)) → list_all p es ≡ true → list_all p (removed a es) ≡ true
  all_removed p a [] h = refl
  all_removed p a (e ∷ es) h = grind (arith, nat_tests, all_removed p a es)

  pub all_stored : (p : Entry T → Bool) (a : ℕ) (v : T) (es : List (Entry T)) → p (record { address = a; value = v }) ≡ true → list_all p es ≡ true → list_all p (stored a v es) ≡ true
  all_stored p a v [] n h = grind (arith, nat_tests)
  all_stored p a v (e ∷ es) n h = grind (arith, nat_tests, all_stored p a v es)

  -- a test of the values holds of what the map has at an address
  pub lookup_all : (p : T → Bool) (a : ℕ) (es : List (Entry T)) (d : T) → list_all (λ e. p e.value) es ≡ true → p d ≡ true → p (unwrap_or (lookup a es) d) ≡ true
  lookup_all p a [] d h n = n
  lookup_all p a (x ∷ es) d h n = unwrapped p (is_at a x) x.value (lookup a es) d (grind (arith, nat_tests)) (lookup_all p a es d (grind (arith, nat_tests)) n)

  -- WHAT HOLDS OF EACH ENTRY holds of what the map has at each address

  module _ (p : ℕ → T → Bool) where
    here_or_there : (b : Bool) (a : ℕ) (e : Entry T) (es : List (Entry T)) (v : T) → is_at a e ≡ b → p e.address e.value ≡ true → (lookup a es ≡ Some v → p a v ≡ true) → (if b then Some e.value else lookup a es) ≡ Some v → p a v ≡ true
    here_or_there true a e es v at h more l = (let same : a ≡ e.address = grind (arith, nat_tests, at) in let is : e.value ≡ v = cc in rw (same, ← is) h)
    here_or_there false a e es v at h more l = more l

    pub all_found : (es : List (Entry T)) → list_all (λ e. p e.address e.value) es ≡ true → (a : ℕ) (v : T) → lookup a es ≡ Some v → p a v ≡ true
    all_found [] h a v l = absurd (cc)
    all_found (e ∷ es) h a v l =
        here_or_there (is_at a e) a e es v refl (grind (arith, nat_tests, h)) (all_found es (grind (arith, nat_tests, h)) a v) l

    not_first : (b : Bool) (a : ℕ) (e : Entry T) (es : List (Entry T)) (v : T) → is_at a e ≡ b → are_above e.address es ≡ true → lookup a es ≡ Some v → (if b then Some e.value else lookup a es) ≡ Some v
    not_first true a e es v at h l =
        let none : lookup a es ≡ None = no_lookup a es (above_no_entry e.address a es (grind (arith, nat_tests, at)) h) in
        absurd (cc)
    not_first false a e es v at h l = l

    pub all_entries : (es : List (Entry T)) → is_rising es ≡ true → ((a : ℕ) (v : T) → lookup a es ≡ Some v → p a v ≡ true) → list_all (λ e. p e.address e.value) es ≡ true
    all_entries [] r f = refl
    all_entries (e ∷ es) r f =
        let first : p e.address e.value ≡ true = f e.address e.value (grind (arith, nat_tests)) in
        let rest : list_all (λ x. p x.address x.value) es ≡ true =
        all_entries es (grind (arith, nat_tests, r)) (λ a v l. f a v (not_first (is_at a e) a e es v refl (grind (arith, nat_tests, r)) l)) in
        grind (arith, nat_tests, first, rest)
