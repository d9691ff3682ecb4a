-- Rows that go onto a table one behind another.
use Rattle.std.proofs.Common.{◌≡◌, ℕ, zero, suc, ◌+◌, ◌-◌, ◌<◌, ◌≤◌, ◌==◌, Bool, true, ◌&&◌, List, [], ◌∷◌, ◌++◌, length, take, drop, replicate, Some, None, slice_get, refl, sym, ap, subst, ◌∙◌, arith, take-add}
use Rattle.std.specs.List.{list_all}
use Rattle.std.proofs.lemmas.List.{take-append-le, take_all, length-append, length-drop, length-take-le}
use Rattle.ckrt_objects.specs.declared.address_map.Entry.{Entry}
use Rattle.ckrt_objects.specs.Appended.{Appends}
use Rattle.ckrt_objects.proofs.InUse.{drop_at}
use Rattle.std.proofs.lemmas.Bool.Decides.{nat_tests}
use Rattle.ckrt_thread.specs.Keys.{KeyTable, are_proper_keys, is_aligned_key}
use Rattle.ckrt_thread.proofs.KeyLemmas.{both, no_value, of_keys}
use Rattle.ckrt_thread.specs.Contents.{has_values_of}
use Rattle.ckrt_tables.specs.Objects.{LeadsToTable}
use Rattle.ckrt_tables.proofs.Entries.{goes_on}

pub next_entry : {T : Type 0} (IsTable : List (Entry T) → Type 0) → ((xs ys : List (Entry T)) → IsTable (xs ++ ys) → IsTable xs) → (kept old new : List (Entry T)) (i : ℕ) (e : Entry T) (took : Bool)
    → slice_get kept i ≡ Some e → Appends IsTable e old new took → LeadsToTable IsTable old (drop i kept) kept → LeadsToTable IsTable new (drop (i + 1) kept) kept
next_entry IsTable beginning kept old new i e took is appends leads =
    goes_on IsTable beginning e old new took appends kept (drop (i + 1) kept) (subst (λ l. LeadsToTable IsTable old l kept) (drop_at kept i e is) leads)

-- there is something within a list
pub within : {X : Type 0} (xs : List X) (i : ℕ) → i < length xs → slice_get xs i ≡ None → ⊥
within [] i lt none = absurd (omega arith)
within (x ∷ xs) zero lt none = absurd (cc)
within (x ∷ xs) (suc i) lt none = within xs i (omega arith) none

pub none_of_keys : (keys : KeyTable) (n : ℕ) → list_all (has_values_of keys) (replicate n None) ≡ true
none_of_keys keys zero = refl
none_of_keys keys (suc n) = (let here = of_keys keys None (λ k _. no_value k) in let rest = none_of_keys keys n in grind (arith, here, rest))

pub keys_size : (keys : KeyTable) → are_proper_keys keys ≡ true → length keys.destructors ≡ 32
keys_size keys proper = (let same = (both (length keys.destructors == 32) (list_all is_aligned_key keys.destructors) (both (length keys.destructors == 32 && list_all is_aligned_key keys.destructors) _ proper).0).0 in grind (arith, nat_tests, same))

-- A PAGE MORE

module _ (xs ys : List ℕ) (a : ℕ) (inside : a + 4096 ≤ length ys) (size : length xs ≡ length ys) where
  abbrev page : List ℕ
  page = take 4096 (drop a ys)

  front : length (take a xs ++ page) ≡ a + 4096
  front =
      let first : length (take a xs) ≡ a = length-take-le a xs (omega (arith, inside, size)) in
      let behind = length-drop a ys in
      let second : length page ≡ 4096 = length-take-le 4096 (drop a ys) (omega (arith, inside, behind)) in
      let both = length-append (take a xs) page in
      omega (arith, both, first, second)

  pub page_more : take a xs ≡ take a ys → take (a + 4096) (take a xs ++ page ++ drop (a + 4096) xs) ≡ take (a + 4096) ys
  page_more same =
      take-append-le (a + 4096) (take a xs ++ page) (drop (a + 4096) xs) (omega (arith, front))
      ∙ take_all (a + 4096) (take a xs ++ page) (omega (arith, front))
      ∙ ap (λ l. l ++ page) same
      ∙ sym (take-add a 4096 ys)

  pub page_size : length (take a xs ++ page ++ drop (a + 4096) xs) ≡ length ys
  page_size =
      let behind = length-drop (a + 4096) xs in
      let both = length-append (take a xs ++ page) (drop (a + 4096) xs) in
      omega (arith, both, front, behind, inside, size)
