-- How many addresses are in use.
use Rattle.std.proofs.Common.{◌≡◌, ℕ, zero, suc, ◌+◌, ◌-◌, ◌≤◌, ◌<◌, nat_eq, Bool, true, false, cond, ◌||◌, not, List, [], ◌∷◌, ◌++◌, length, map, Option, Some, None, is_some, refl, sym, ap, ◌∙◌, arith, slice_get, drop}
use Rattle.std.specs.List.{list_any, filter_map, cons_option, IsDistinct, AllByRecursion}
use Rattle.std.specs.Set.{distinct_count, unique_keys, is_member}
use Rattle.std.proofs.lemmas.Bool.Decides.{nat_tests}
use Rattle.std.proofs.lemmas.List.{drop_all, length-drop}
use Rattle.std.proofs.lemmas.List.Folds.{list_any-append}
use Rattle.std.proofs.lemmas.Map.Made.{length-le_from_is_member}
use Rattle.std.proofs.lemmas.Cmp.{nat_eq_equiv}
use Rattle.ckrt_thread.specs.declared.records.Wait.{Wait}
use Rattle.ckrt_thread.specs.declared.records.Object.{Object}
use Rattle.ckrt_thread.specs.Waits.{is_for}
use Rattle.ckrt_thread.specs.Queues.{object_of, is_condition, may_name_another, named_at_most}
use Rattle.ckrt_thread.proofs.QueueLemmas.{for_own}
use Rattle.ckrt_objects.specs.declared.address_map.Entry.{Entry}
use Rattle.ckrt_objects.specs.AddressMap.{has_entry, lookup, are_above, is_rising, has_room}
use Rattle.ckrt_objects.specs.InUse.{is_name, addresses_in_use, is_in_use, count_in_use, is_new, is_new_name, NamesByObject}

pub drop_at : {X : Type 0} (xs : List X) (i : ℕ) (x : X) → slice_get xs i ≡ Some x → drop i xs ≡ x ∷ drop (i + 1) xs
drop_at [] i x e = absurd (cc)
drop_at (y ∷ xs) zero x e = grind (arith, nat_tests)
drop_at (y ∷ xs) (suc i) x e = grind (arith, nat_tests, drop_at xs i x)

-- DIFFERENT NUMBERS in a list

unique_any : (q : ℕ) (xs : List ℕ) → list_any (nat_eq q) (unique_keys nat_eq xs) ≡ list_any (nat_eq q) xs
unique_any q [] = refl
unique_any q (x ∷ xs) = grind (arith, nat_tests, unique_any q xs)

none_apart : (x : ℕ) (xs : List ℕ) → list_any (nat_eq x) xs ≡ false → AllByRecursion (λ y. nat_eq x y ≡ false) xs
none_apart x [] h = tt
none_apart x (y ∷ xs) h = (grind (arith, nat_tests), none_apart x xs (grind (arith, nat_tests)))

distinct_step : (x : ℕ) (xs : List ℕ) (b : Bool) → is_member nat_eq xs x ≡ b → IsDistinct nat_eq (unique_keys nat_eq xs) → IsDistinct nat_eq (cond b (unique_keys nat_eq xs) (x ∷ unique_keys nat_eq xs))
unfolding IsDistinct
distinct_step x xs true e h = h
distinct_step x xs false e h = (none_apart x (unique_keys nat_eq xs) (unique_any x xs ∙ e), h)

unique_distinct : (xs : List ℕ) → IsDistinct nat_eq (unique_keys nat_eq xs)
unfolding IsDistinct
unique_distinct [] = tt
unique_distinct (x ∷ xs) = distinct_step x xs (is_member nat_eq xs x) refl (unique_distinct xs)

-- a list has no more different numbers than one that has each of its numbers
pub distinct_le : (xs ys : List ℕ) → ((q : ℕ) → list_any (nat_eq q) xs ≡ true → list_any (nat_eq q) ys ≡ true) → distinct_count nat_eq xs ≤ distinct_count nat_eq ys
distinct_le xs ys h = length-le_from_is_member nat_eq_equiv (unique_keys nat_eq xs) (unique_keys nat_eq ys) (unique_distinct xs) (λ q m. unique_any q ys ∙ h q (sym (unique_any q xs) ∙ m))

pub distinct_cons : (a : ℕ) (ys : List ℕ) → distinct_count nat_eq (a ∷ ys) ≡ cond (list_any (nat_eq a) ys) 0 1 + distinct_count nat_eq ys
distinct_cons a ys = grind (arith, nat_tests)

-- NAMES AND ENTRIES

module _ {T : Type 0} where
  pub lookup_is_some : (a : ℕ) (es : List (Entry T)) → is_some (lookup a es) ≡ has_entry a es
  lookup_is_some a [] = refl
  lookup_is_some a (e ∷ es) = grind (arith, nat_tests, lookup_is_some a es)

  any_entries : (a : ℕ) (es : List (Entry T)) → list_any (nat_eq a) (map (λ e. e.address) es) ≡ has_entry a es
  any_entries a [] = refl
  any_entries a (e ∷ es) = ap (λ b. nat_eq a e.address || b) (any_entries a es)

any_option : (a : ℕ) (o : Option ℕ) (ns : List ℕ) → list_any (nat_eq a) (cons_option o ns) ≡ (is_name a o || list_any (nat_eq a) ns)
any_option a None ns = refl
any_option a (Some b) ns = refl

any_names : (name_of : Wait → Option ℕ) (a : ℕ) (ws : List Wait) → list_any (nat_eq a) (filter_map name_of ws) ≡ list_any (λ w. is_name a (name_of w)) ws
any_names name_of a [] = refl
any_names name_of a (w ∷ ws) = any_option a (name_of w) (filter_map name_of ws) ∙ ap (λ b. is_name a (name_of w) || b) (any_names name_of a ws)

-- who waits for one object names the same
object_named : (name_of : Wait → Option ℕ) (o : Object) (a : ℕ) (w : Wait) (ws : List Wait) → NamesByObject name_of → is_condition o ≡ false → is_for o w ≡ true → name_of w ≡ Some a → list_any (is_for o) ws ≡ true
    → list_any (λ v. is_name a (name_of v)) ws ≡ true
object_named name_of o a w [] law n f e m = absurd (cc)
object_named name_of o a w (v ∷ ws) law n f e m =
    let same : is_for o v ≡ true → is_name a (name_of v) ≡ true = λ k. rw (law.same o v w n k f ∙ e) (grind (arith, nat_tests)) in
    let rest : list_any (is_for o) ws ≡ true → list_any (λ v. is_name a (name_of v)) ws ≡ true = object_named name_of o a w ws law n f e in
    grind (arith, nat_tests, same, rest, m)

module _ {T : Type 0} (name_of : Wait → Option ℕ) where
  pub any_in_use : (a : ℕ) (ws : List Wait) (es : List (Entry T)) → is_in_use name_of a ws es ≡ (list_any (λ w. is_name a (name_of w)) ws || has_entry a es)
  any_in_use a ws es =
      list_any-append (nat_eq a) (filter_map name_of ws) (map (λ e. e.address) es)
      ∙ ap (λ b. b || list_any (nat_eq a) (map (λ e. e.address) es)) (any_names name_of a ws)
      ∙ ap (λ b. list_any (λ w. is_name a (name_of w)) ws || b) (any_entries a es)

  new_name : (o p : Option ℕ) (ws : List Wait) (es : List (Entry T)) → o ≡ p → is_new_name name_of o ws es ≡ is_new_name name_of p ws es
  new_name o p ws es e = rw e refl

  pub new_at_some : (ws : List Wait) (es : List (Entry T)) (i : ℕ) (w : Wait) (a : ℕ) → slice_get ws i ≡ Some w → name_of w ≡ Some a → is_new name_of (drop i ws) es ≡ not (is_in_use name_of a (drop (i + 1) ws) es)
  new_at_some ws es i w a e n = rw (drop_at ws i w e) (new_name (name_of w) (Some a) (drop (i + 1) ws) es n)

  pub new_at_none : (ws : List Wait) (es : List (Entry T)) (i : ℕ) (w : Wait) → slice_get ws i ≡ Some w → name_of w ≡ None → is_new name_of (drop i ws) es ≡ false
  new_at_none ws es i w e n = rw (drop_at ws i w e) (new_name (name_of w) None (drop (i + 1) ws) es n)

  -- HOW MANY

  count_cons : (o : Option ℕ) (ws : List Wait) (es : List (Entry T)) → distinct_count nat_eq (cons_option o (filter_map name_of ws) ++ map (λ e. e.address) es) ≡ cond (is_new_name name_of o ws es) 1 0 + count_in_use name_of ws es
  count_cons None ws es = grind (arith, nat_tests)
  count_cons (Some a) ws es = grind (arith, nat_tests)

  -- the first wait counts where its name is new
  pub count_first : (w : Wait) (ws : List Wait) (es : List (Entry T)) → count_in_use name_of (w ∷ ws) es ≡ cond (is_new name_of (w ∷ ws) es) 1 0 + count_in_use name_of ws es
  count_first w ws es = count_cons (name_of w) ws es

  pub count_at : (ws : List Wait) (es : List (Entry T)) (i : ℕ) → i < length ws → count_in_use name_of (drop i ws) es ≡ cond (is_new name_of (drop i ws) es) 1 0 + count_in_use name_of (drop (i + 1) ws) es
  count_at [] es i l = absurd (omega arith)
  count_at (w ∷ ws) es zero l = let d : drop (0 + 1) (w ∷ ws) ≡ ws = grind (arith, nat_tests) in rw d (count_first w ws es)
  count_at (w ∷ ws) es (suc i) l = let d : drop (suc i + 1) (w ∷ ws) ≡ drop (i + 1) ws = grind (arith, nat_tests) in rw d (count_at ws es i (omega arith))

  distinct_none : (n : ℕ) (es : List (Entry T)) → are_above n es ≡ true → list_any (nat_eq n) (map (λ e. e.address) es) ≡ false
  distinct_none n [] h = refl
  distinct_none n (e ∷ es) h = grind (arith, nat_tests, distinct_none n es)

  -- the entries have different addresses
  count_entries : (es : List (Entry T)) → is_rising es ≡ true → distinct_count nat_eq (map (λ e. e.address) es) ≡ length es
  count_entries [] h = refl
  count_entries (e ∷ es) h = grind (arith, nat_tests, distinct_none e.address es, count_entries es)

  pub count_done : (ws : List Wait) (es : List (Entry T)) (i : ℕ) → length ws ≤ i → is_rising es ≡ true → count_in_use name_of (drop i ws) es ≡ length es
  count_done ws es i l h = rw (drop_all i ws l) (count_entries es h)

  -- no more are in use than there are entries and waits
  pub count_le : (ws : List Wait) (es : List (Entry T)) → is_rising es ≡ true → count_in_use name_of ws es ≤ length es + length ws
  count_le [] es h = omega (arith, count_entries es h)
  count_le (w ∷ ws) es h = grind (arith, nat_tests, count_first w ws es, count_le ws es h)

  -- each entry is in use, and so is an address with no entry that a wait names
  pub entries_le : (ws : List Wait) (es : List (Entry T)) → is_rising es ≡ true → length es ≤ count_in_use name_of ws es
  entries_le [] es h = omega (arith, count_entries es h)
  entries_le (w ∷ ws) es h = grind (arith, nat_tests, count_first w ws es, entries_le ws es h)

  is_new_named : (a : ℕ) (o : Option ℕ) (ws : List Wait) (es : List (Entry T)) → is_name a o ≡ true → has_entry a es ≡ false → list_any (λ w. is_name a (name_of w)) ws ≡ false → is_new_name name_of o ws es ≡ true
  is_new_named a None ws es n h l = absurd (cc)
  is_new_named a (Some b) ws es n h l = grind (arith, nat_tests, any_in_use b ws es)

  pub entries_lt : (a : ℕ) (ws : List Wait) (es : List (Entry T)) → is_rising es ≡ true → has_entry a es ≡ false → list_any (λ w. is_name a (name_of w)) ws ≡ true → length es < count_in_use name_of ws es
  entries_lt a [] es t h n = absurd (cc)
  entries_lt a (w ∷ ws) es t h n =
      grind (arith, nat_tests, count_first w ws es, entries_le ws es t, entries_lt a ws es t h, is_new_named a (name_of w) ws es)

  -- an address that may come into use has room for an entry
  pub room_in_use : (limit a : ℕ) (ws : List Wait) (es : List (Entry T)) → is_rising es ≡ true → count_in_use name_of ws es ≤ limit → (is_in_use name_of a ws es ≡ false → count_in_use name_of ws es < limit) → has_room limit a es ≡ true
  room_in_use limit a ws es t few f =
      grind (arith, nat_tests, any_in_use a ws es, entries_le ws es t, entries_lt a ws es t, f)

  -- where at most one address comes into use, and only below the limit, the limit holds after it
  pub few_kept : (limit a : ℕ) (ws vs : List Wait) (es fs : List (Entry T)) → count_in_use name_of ws es ≤ limit → (is_in_use name_of a ws es ≡ false → count_in_use name_of ws es < limit)
      → ((q : ℕ) → is_in_use name_of q vs fs ≡ true → (nat_eq q a || is_in_use name_of q ws es) ≡ true) → count_in_use name_of vs fs ≤ limit
  few_kept limit a ws vs es fs few f h =
      let le = distinct_le (addresses_in_use name_of vs fs) (a ∷ addresses_in_use name_of ws es) h in
      grind (arith, nat_tests, le, distinct_cons a (addresses_in_use name_of ws es), f)

  -- an address that goes out of use leaves fewer than the limit
  pub fewer_after : (limit a : ℕ) (ws vs : List Wait) (es : List (Entry T)) → count_in_use name_of ws es ≤ limit → is_in_use name_of a ws es ≡ true
      → ((q : ℕ) → is_in_use name_of q vs es ≡ true → is_in_use name_of q ws es ≡ true) → is_in_use name_of a vs es ≡ false → count_in_use name_of vs es < limit
  fewer_after limit a ws vs es few u h n =
      let le = distinct_le (a ∷ addresses_in_use name_of vs es) (addresses_in_use name_of ws es) (λ q m. grind (arith, nat_tests, h q, u, m)) in
      grind (arith, nat_tests, le, distinct_cons a (addresses_in_use name_of vs es))

  -- where the waits from a place on are too few to make up what the limit lacks, fewer are in use
  pub count_short : (limit count place : ℕ) (ws : List Wait) (es : List (Entry T)) → is_rising es ≡ true → place ≤ length ws
      → count + count_in_use name_of (drop place ws) es ≡ count_in_use name_of ws es + length es → count + (length ws - place) < limit → count_in_use name_of ws es < limit
  count_short limit count place ws es h l c f =
      let left = count_le (drop place ws) es h in
      let size : length (drop place ws) ≡ length ws - place = length-drop place ws in
      omega (arith, left, size, c, f)

  -- NAMES BY OBJECT: no more are in use than there are entries, waits at conditions, and other objects that are waited for

  -- a wait whose name is new is at a condition, or the last one for its object
  may_be_new : (o : Option Object) (p : Option ℕ) (w : Wait) (ws : List Wait) (es : List (Entry T)) → NamesByObject name_of → object_of w.reason ≡ o → name_of w ≡ p
      → is_new_name name_of p ws es ≡ true → may_name_another o ws ≡ true
  may_be_new None p w ws es law k e h = absurd (let n = law.none w k in cc)
  may_be_new (Some o) None w ws es law k e h = absurd (cc)
  may_be_new (Some o) (Some a) w ws es law k e h =
      let f = for_own o w k in
      let u = any_in_use a ws es in
      let n : is_condition o ≡ false → list_any (is_for o) ws ≡ true → list_any (λ v. is_name a (name_of v)) ws ≡ true = λ c. object_named name_of o a w ws law c f e in
      grind (arith, nat_tests, u, n, h)

  pub count_named : (ws : List Wait) (es : List (Entry T)) → NamesByObject name_of → is_rising es ≡ true → count_in_use name_of ws es ≤ length es + named_at_most ws
  count_named [] es law h = omega (arith, count_entries es h)
  count_named (w ∷ ws) es law h =
      let m = may_be_new (object_of w.reason) (name_of w) w ws es law refl refl in
      grind (arith, nat_tests, count_first w ws es, count_named ws es law h, m)
