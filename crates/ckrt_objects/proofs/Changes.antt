-- What is in use after a wait has begun or ended, or an entry has changed.
use Rattle.std.proofs.Common.{◌≡◌, ℕ, ◌≤◌, ◌<◌, nat_eq, Bool, true, false, ◌||◌, List, [], ◌∷◌, ◌++◌, Option, Some, None, refl, ap, ◌∙◌, arith}
use Rattle.std.specs.List.{find}
use Rattle.std.proofs.lemmas.Bool.Decides.{nat_tests}
use Rattle.std.proofs.lemmas.List.Folds.{list_any-append}
use Rattle.ckrt_thread.specs.declared.records.Wait.{Wait}
use Rattle.ckrt_thread.specs.Waits.{without}
use Rattle.ckrt_objects.specs.declared.address_map.Entry.{Entry}
use Rattle.ckrt_objects.specs.AddressMap.{has_entry, has_room, is_rising, removed, stored}
use Rattle.ckrt_objects.specs.InUse.{names, is_named, addresses_in_use, is_in_use, count_in_use, is_full}
use Rattle.ckrt_objects.proofs.AddressMap.{entry_removed, entry_stored}
use Rattle.ckrt_objects.proofs.InUse.{any_in_use, distinct_le, few_kept, fewer_after, room_in_use}
use Rattle.ckrt_objects.proofs.Waits.{IsAmong, any_among, among_without, found_any}

or_false : (b : Bool) → (b || false) ≡ b
or_false true = refl
or_false false = refl

-- a wait has begun
pub named_appended : (name_of : Wait → Option ℕ) (q : ℕ) (ws : List Wait) (w : Wait) → is_named name_of q (ws ++ w ∷ []) ≡ (is_named name_of q ws || names name_of q w)
named_appended name_of q ws w = list_any-append (names name_of q) ws (w ∷ []) ∙ ap (λ b. is_named name_of q ws || b) (or_false (names name_of q w))

module _ {T : Type 0} (name_of : Wait → Option ℕ) where
  -- ROOM for one more

  pub not_full : (limit a : ℕ) (ws : List Wait) (es : List (Entry T)) → is_full name_of limit a ws es ≡ false → is_in_use name_of a ws es ≡ false → count_in_use name_of ws es < limit
  not_full limit a ws es f u = grind (arith, nat_tests)

  pub room_of_not_full : (limit a : ℕ) (ws : List Wait) (es : List (Entry T)) → is_rising es ≡ true → count_in_use name_of ws es ≤ limit → is_full name_of limit a ws es ≡ false → has_room limit a es ≡ true
  room_of_not_full limit a ws es t few f = room_in_use name_of limit a ws es t few (not_full limit a ws es f)

  pub used_not_full : (limit a : ℕ) (ws : List Wait) (es : List (Entry T)) → is_in_use name_of a ws es ≡ true → is_full name_of limit a ws es ≡ false
  used_not_full limit a ws es u = grind (arith, nat_tests)

  pub entry_in_use : (a : ℕ) (ws : List Wait) (es : List (Entry T)) → has_entry a es ≡ true → is_in_use name_of a ws es ≡ true
  entry_in_use a ws es h = grind (arith, nat_tests, any_in_use name_of a ws es)

  pub named_in_use : (a : ℕ) (ws : List Wait) (es : List (Entry T)) → is_named name_of a ws ≡ true → is_in_use name_of a ws es ≡ true
  named_in_use a ws es h = grind (arith, nat_tests, any_in_use name_of a ws es)

  -- WAITS HAVE ENDED

  pub in_use_among : (q : ℕ) (vs ws : List Wait) (es : List (Entry T)) → IsAmong vs ws → is_in_use name_of q vs es ≡ true → is_in_use name_of q ws es ≡ true
  in_use_among q vs ws es among u =
      grind (arith, nat_tests, any_in_use name_of q vs es, any_in_use name_of q ws es, any_among vs ws among (names name_of q))

  pub count_among : (vs ws : List Wait) (es : List (Entry T)) → IsAmong vs ws → count_in_use name_of vs es ≤ count_in_use name_of ws es
  count_among vs ws es among = distinct_le (addresses_in_use name_of vs es) (addresses_in_use name_of ws es) (λ q u. in_use_among q vs ws es among u)

  -- what was in use can be brought into use again
  pub not_full_among : (limit a : ℕ) (vs ws : List Wait) (es : List (Entry T)) → IsAmong vs ws → count_in_use name_of ws es ≤ limit → is_in_use name_of a ws es ≡ true → is_full name_of limit a vs es ≡ false
  not_full_among limit a vs ws es among few used =
      let fewer : is_in_use name_of a vs es ≡ false → count_in_use name_of vs es < limit =
      λ u. fewer_after name_of limit a ws vs es few used (λ q x. in_use_among q vs ws es among x) u in
      grind (arith, nat_tests, fewer)

  -- so what a wait named that has been taken out
  pub not_full_after : (limit a : ℕ) (p : Wait → Bool) (ws : List Wait) (es : List (Entry T)) (w : Wait) → count_in_use name_of ws es ≤ limit → find p ws ≡ Some w → name_of w ≡ Some a
      → is_full name_of limit a (without w.thread ws) es ≡ false
  not_full_after limit a p ws es w few e n =
      let own : names name_of a w ≡ true = rw n (grind (arith, nat_tests)) in
      not_full_among limit a (without w.thread ws) ws es (among_without w.thread ws) few (named_in_use a ws es (found_any p (names name_of a) ws w e own))

  -- A WAIT HAS BEGUN

  in_use_appended : (a q : ℕ) (ws : List Wait) (w : Wait) (es : List (Entry T)) → name_of w ≡ Some a → is_in_use name_of q (ws ++ w ∷ []) es ≡ true → (nat_eq q a || is_in_use name_of q ws es) ≡ true
  in_use_appended a q ws w es e u =
      let n : is_named name_of q (ws ++ w ∷ []) ≡ (is_named name_of q ws || nat_eq q a) = rw e at (named_appended name_of q ws w) in
      grind (arith, nat_tests, any_in_use name_of q (ws ++ w ∷ []) es, any_in_use name_of q ws es, n, u)

  pub few_appended : (limit a : ℕ) (ws : List Wait) (w : Wait) (es : List (Entry T)) → name_of w ≡ Some a → count_in_use name_of ws es ≤ limit → is_full name_of limit a ws es ≡ false
      → count_in_use name_of (ws ++ w ∷ []) es ≤ limit
  few_appended limit a ws w es e few f =
      few_kept name_of limit a ws (ws ++ w ∷ []) es es few (not_full limit a ws es f) (λ q u. in_use_appended a q ws w es e u)

  in_use_unnamed : (q : ℕ) (ws : List Wait) (w : Wait) (es : List (Entry T)) → name_of w ≡ None → is_in_use name_of q (ws ++ w ∷ []) es ≡ true → is_in_use name_of q ws es ≡ true
  in_use_unnamed q ws w es e u =
      let n : is_named name_of q (ws ++ w ∷ []) ≡ (is_named name_of q ws || false) = rw e at (named_appended name_of q ws w) in
      grind (arith, nat_tests, any_in_use name_of q (ws ++ w ∷ []) es, any_in_use name_of q ws es, n, u)

  -- one that names no object of the kind
  pub count_unnamed : (ws : List Wait) (w : Wait) (es : List (Entry T)) → name_of w ≡ None → count_in_use name_of (ws ++ w ∷ []) es ≤ count_in_use name_of ws es
  count_unnamed ws w es e = distinct_le (addresses_in_use name_of (ws ++ w ∷ []) es) (addresses_in_use name_of ws es) (λ q u. in_use_unnamed q ws w es e u)

  -- AN ENTRY HAS CHANGED, and waits may have ended

  pub in_use_stored : (a q : ℕ) (v : T) (vs ws : List Wait) (es : List (Entry T)) → IsAmong vs ws → is_in_use name_of q vs (stored a v es) ≡ true → (nat_eq q a || is_in_use name_of q ws es) ≡ true
  in_use_stored a q v vs ws es among u =
      grind (arith, nat_tests, any_in_use name_of q vs (stored a v es), any_in_use name_of q ws es, entry_stored a q v es, any_among vs ws among (names name_of q))

  pub few_stored : (limit a : ℕ) (v : T) (vs ws : List Wait) (es : List (Entry T)) → IsAmong vs ws → count_in_use name_of ws es ≤ limit → is_full name_of limit a ws es ≡ false
      → count_in_use name_of vs (stored a v es) ≤ limit
  few_stored limit a v vs ws es among few f = few_kept name_of limit a ws vs es (stored a v es) few (not_full limit a ws es f) (λ q u. in_use_stored a q v vs ws es among u)

  pub in_use_removed : (a q : ℕ) (vs ws : List Wait) (es : List (Entry T)) → IsAmong vs ws → is_in_use name_of q vs (removed a es) ≡ true → is_in_use name_of q ws es ≡ true
  in_use_removed a q vs ws es among u =
      grind (arith, nat_tests, any_in_use name_of q vs (removed a es), any_in_use name_of q ws es, entry_removed a q es, any_among vs ws among (names name_of q))

  pub count_removed : (a : ℕ) (vs ws : List Wait) (es : List (Entry T)) → IsAmong vs ws → count_in_use name_of vs (removed a es) ≤ count_in_use name_of ws es
  count_removed a vs ws es among = distinct_le (addresses_in_use name_of vs (removed a es)) (addresses_in_use name_of ws es) (λ q u. in_use_removed a q vs ws es among u)
