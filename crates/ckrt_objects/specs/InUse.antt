-- Which addresses are in use: those that have an entry, and those that a wait names (this project's choice).
use Rattle.std.specs.Prelude.{◌≡◌, ℕ, ◌==◌, nat_eq, nat_le, Bool, true, false, not, ◌&&◌, List, [], ◌∷◌, ◌++◌, map, Option, Some, None}
use Rattle.std.specs.List.{list_any, filter_map}
use Rattle.std.specs.Set.{distinct_count}
use Rattle.ckrt_thread.specs.declared.records.Wait.{Wait}
use Rattle.ckrt_thread.specs.declared.records.Object.{Object}
use Rattle.ckrt_thread.specs.Waits.{is_for}
use Rattle.ckrt_thread.specs.Queues.{object_of, is_condition}
use Rattle.ckrt_objects.specs.declared.address_map.Entry.{Entry}

abbrev pub is_name : ℕ → Option ℕ → Bool
is_name a None = false
is_name a (Some b) = a == b

-- Who waits for no object names none, and all who wait for one object name the same, or none of them does. Who waits at a
-- condition may name another than the others there.
pub record NamesByObject (name_of : Wait → Option ℕ) : Type 0 where
  pub none : (w : Wait) → object_of w.reason ≡ None → name_of w ≡ None
  pub same : (o : Object) (v w : Wait) → is_condition o ≡ false → is_for o v ≡ true
      → is_for o w ≡ true → name_of v ≡ name_of w

-- `name_of` is the address that a wait names
module _ (name_of : Wait → Option ℕ) where
  abbrev pub names : ℕ → Wait → Bool
  names a w = is_name a (name_of w)

  -- whether a wait names the address
  abbrev pub is_named : ℕ → List Wait → Bool
  is_named a ws = list_any (names a) ws

module _ {T : Type 0} (name_of : Wait → Option ℕ) where
  -- some of them perhaps several times
  abbrev pub addresses_in_use : List Wait → List (Entry T) → List ℕ
  addresses_in_use ws es = filter_map name_of ws ++ map (λ e. e.address) es

  abbrev pub is_in_use : ℕ → List Wait → List (Entry T) → Bool
  is_in_use a ws es = list_any (nat_eq a) (addresses_in_use ws es)

  abbrev pub count_in_use : List Wait → List (Entry T) → ℕ
  count_in_use ws es = distinct_count nat_eq (addresses_in_use ws es)

  -- it is not in use, and `limit` others are
  abbrev pub is_full : ℕ → ℕ → List Wait → List (Entry T) → Bool
  is_full limit a ws es = not (is_in_use a ws es) && nat_le limit (count_in_use ws es)

  -- whether a first wait that names this address brings it into use
  abbrev pub is_new_name : Option ℕ → List Wait → List (Entry T) → Bool
  is_new_name None ws es = false
  is_new_name (Some a) ws es = not (is_in_use a ws es)

  abbrev pub is_new : List Wait → List (Entry T) → Bool
  is_new [] es = false
  is_new (w ∷ ws) es = is_new_name (name_of w) ws es
