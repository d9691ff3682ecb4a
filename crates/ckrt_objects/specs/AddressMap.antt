-- A finite map from guest addresses, as the list of its entries by rising address.
use Rattle.std.specs.Prelude.{ℕ, ◌+◌, ◌==◌, nat_lt, Bool, true, false, ◌&&◌, ◌||◌, if◌then◌else◌, List, [], ◌∷◌, Option, Some, None, length}
use Rattle.std.specs.List.{list_any}
use Rattle.ckrt_objects.specs.declared.address_map.Entry.{Entry}

module _ {T : Type 0} where
  abbrev pub is_at : ℕ → Entry T → Bool
  is_at a e = a == e.address

  abbrev pub has_entry : ℕ → List (Entry T) → Bool
  has_entry a es = list_any (is_at a) es

  -- what the map has at an address
  abbrev pub lookup : ℕ → List (Entry T) → Option T
  lookup a [] = None
  lookup a (e ∷ es) = if is_at a e then Some e.value else lookup a es

  -- the map with no entry at an address
  abbrev pub removed : ℕ → List (Entry T) → List (Entry T)
  removed a [] = []
  removed a (e ∷ es) = if is_at a e then es else e ∷ removed a es

  -- the map with a value at an address
  abbrev pub stored : ℕ → T → List (Entry T) → List (Entry T)
  stored a v [] = (record { address = a; value = v }) ∷ []
  stored a v (e ∷ es) =
      if nat_lt e.address a then e ∷ stored a v es
      else (record { address = a; value = v }) ∷ (if is_at a e then es else e ∷ es)

  abbrev pub are_above : ℕ → List (Entry T) → Bool
  are_above n [] = true
  are_above n (e ∷ es) = nat_lt n e.address && are_above n es

  abbrev pub is_rising : List (Entry T) → Bool
  is_rising [] = true
  is_rising (e ∷ es) = are_above e.address es && is_rising es

  -- a map of at most n entries can have one at the address
  abbrev pub has_room : ℕ → ℕ → List (Entry T) → Bool
  has_room n a es = has_entry a es || nat_lt (length es) n

  -- how many entries of a rising map have a lower address
  abbrev pub place_in : ℕ → List (Entry T) → ℕ
  place_in a [] = 0
  place_in a (e ∷ es) = if nat_lt e.address a then 1 + place_in a es else 0

  -- whether there is an entry, and it is the address's
  abbrev pub is_entry_of : ℕ → Option (Entry T) → Bool
  is_entry_of a None = false
  is_entry_of a (Some e) = is_at a e
