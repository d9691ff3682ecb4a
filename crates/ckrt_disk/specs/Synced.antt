-- A write and the sync after it, as the words of a kind of disk for its own calls say them: what such a word says of each call holds of just
-- these two.
use Rattle.std.specs.Prelude.{◌⊎◌, ℕ, Bool, true, false, List}
use Rattle.ckrt_disk.specs.declared.disk.Disk.{Ghosts}

-- from a to b bytes were written at an offset and then synced, both well
pub record WritesSynced {D : Type 0} (d : Ghosts D) (at : ℕ) (bytes : List ℕ) (a b : D) : Type 0 where
  pub written : D
  pub write : d.write_gives a at bytes true written
  pub sync : d.sync_gives written true b

-- the write failed, or the sync after it did
abbrev pub FailsToWriteSynced : {D : Type 0} → Ghosts D → (at : ℕ) → (bytes : List ℕ) → (a b : D)
    → Type 0
FailsToWriteSynced {D} d at bytes a b =
    d.write_gives a at bytes false b
    ⊎ ((written : D) × d.write_gives a at bytes true written × d.sync_gives written false b)

abbrev pub WritesSyncedOrFails : {D : Type 0} → Ghosts D → (at : ℕ) → (bytes : List ℕ) → (a b : D)
    → (failed : Bool) → Type 0
WritesSyncedOrFails d at bytes a b false = WritesSynced d at bytes a b
WritesSyncedOrFails d at bytes a b true = FailsToWriteSynced d at bytes a b
