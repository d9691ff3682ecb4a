-- The disk model, this project's choice: what the calls of a disk do to its bytes, and what a stop may leave of them.
use Rattle.std.specs.Prelude.{◌≡◌, ◌⊎◌, ◌↔◌, ◌<◌, ◌≤◌, ◌+◌, ◌-◌, ◌^◌, ℕ, List, ◌++◌, length, take, drop, slice_index, min, Result, Option, Some, IsErr, IsOk}

-- new is old with these bytes in the place of those from `at` on
abbrev pub IsOverwritten : List ℕ → ℕ → List ℕ → List ℕ → Type 0
IsOverwritten old at bytes new = new ≡ take at old ++ bytes ++ drop (at + length bytes) old

-- one of the n offsets from `at` on
abbrev pub IsWithin : ℕ → ℕ → ℕ → Type 0
IsWithin at n i = (at ≤ i) × (i < at + n)

-- what a stop may leave: any bytes where they are pending, and the readable ones elsewhere
pub record IsImage (content : List ℕ) (pending : ℕ → Type 0) (image : List ℕ) : Type 0 where
  pub size : length image ≡ length content
  pub same : (i : ℕ) → ¬ pending i → slice_index image i ≡ slice_index content i

-- Time over a call: a stop at a moment since t may have left what it might have left before the call, or what a stop
-- within the call may leave.
pub record Elapses (before now : ℕ) (past since : ℕ → List ℕ → Type 0) (within : List ℕ → Type 0)
    : Type 0 where
  pub later : before ≤ now
  pub nothing_else : (t : ℕ) (image : List ℕ) → t ≤ before → since t image
      → past t image ⊎ within image
  pub keeps : (t : ℕ) (image : List ℕ) → t ≤ before → past t image → since t image

-- the count of failures grows with a fault and with nothing else, and stays at its greatest value
pub record CountsFault {T E : Type 0} (before now : ℕ) (result : Result T E) : Type 0 where
  pub ok : IsOk result → now ≡ before
  pub err : IsErr result → now ≡ min (before + 1) (2 ^ 64 - 1)

-- the count of failures grew; at its greatest value each call counts as growth
abbrev pub HasFailed : ℕ → ℕ → Type 0
HasFailed before now = (before < now) ⊎ (2 ^ 64 - 1 ≤ now)

-- a disk that names s has stopped where s isn't 0 and the count of its calls has reached it
abbrev pub IsStopped : ℕ → ℕ → Type 0
IsStopped s calls = (0 < s) × (s ≤ calls)

-- where the disk names s, the call fails exactly where it has stopped, this call counted
abbrev pub StopsAt : {T E : Type 0} → Option ℕ → ℕ → Result T E → Type 0
StopsAt named_stop calls result = (s : ℕ) → named_stop ≡ Some s → (IsErr result ↔ IsStopped s calls)

-- from old to new: a stop at any moment since old leaves an image that has P, or that it might have left before
pub record LeavesOnly {D : Type 0} (moment : D → ℕ) (left_since : D → ℕ → List ℕ → Type 0)
    (old new : D) (P : List ℕ → Type 0) : Type 0 where
  pub later : moment old ≤ moment new
  pub each : (t : ℕ) (image : List ℕ) → t ≤ moment old → left_since new t image
      → left_since old t image ⊎ P image
