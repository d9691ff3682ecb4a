-- A table of marks, and what a fill leaves.
use Rattle.std.specs.Prelude.{◌≡◌, ◌⊎◌, ◌<◌, ◌+◌, ◌%◌, ℕ, suc, zero, Bool, false, IsTrue, List, length, slice_index, slice_index_or}

-- what the table marks
abbrev pub IsMarked : List Bool → ℕ → Type 0
IsMarked table i = IsTrue (slice_index_or table i false)

-- k of the offsets below i are pending
abbrev pub HasBelow : (ℕ → Type 0) → ℕ → ℕ → Type 0
HasBelow pending zero k = k ≡ 0
HasBelow pending (suc i) k =
    (pending i × ((j : ℕ) × (k ≡ j + 1) × HasBelow pending i j))
    ⊎ ((¬ pending i) × HasBelow pending i k)

-- The pending bytes, by rising offset, took the bytes of fill over and over: the one with k pending bytes below it took
-- byte k % length fill. With an empty fill all stay.
pub record IsFilled (pending : ℕ → Type 0) (fill old new : List ℕ) : Type 0 where
  pub size : length new ≡ length old
  pub kept : (i : ℕ) → ¬ pending i → slice_index new i ≡ slice_index old i
  pub laid : 0 < length fill → (i : ℕ) → pending i
      → (k : ℕ) × HasBelow pending i k × (slice_index new i ≡ slice_index fill (k % length fill))
  pub empty : length fill ≡ 0 → new ≡ old
