-- A table of objects made entry by entry, by rising address.
use Rattle.std.specs.Prelude.{◌≡◌, ◌≤◌, ◌↔◌, ℕ, Bool, true, false, List, [], ◌∷◌, ◌++◌, length}
use Rattle.ckrt_objects.specs.declared.address_map.Entry.{Entry}

module _ {T : Type 0} where
  -- the table with one entry more, after the others
  abbrev pub with_last : Entry T → List (Entry T) → List (Entry T)
  with_last e es = es ++ e ∷ []

  -- a table of a kind, with at most that many entries
  pub record IsTableUpTo (limit : ℕ) (IsTable : List (Entry T) → Type 0) (es : List (Entry T))
      : Type 0 where
    pub table : IsTable es
    pub size : length es ≤ limit

  -- An entry goes after the others where that gives a table that there may be; `result` says whether.
  pub record Appends (MayBe : List (Entry T) → Type 0) (e : Entry T) (old new : List (Entry T))
      (result : Bool) : Type 0 where
    -- where it does
    pub exact : (result ≡ true) ↔ MayBe (with_last e old)
    -- what the table is then
    pub appended : result ≡ true → new ≡ with_last e old
    -- else nothing changes
    pub refused : result ≡ false → new ≡ old
