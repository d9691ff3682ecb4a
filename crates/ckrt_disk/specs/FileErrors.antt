-- When a disk over a file fails, by the file's counts of errors and of interrupted calls. Each definition is over the ghosts g of a
-- kind of file.
use Rattle.std.specs.Prelude.{◌≡◌, ◌⊎◌, ◌≤◌, ◌<◌, ◌+◌, ◌-◌, ◌^◌, ℕ, min, Bool, true, false, List, [], ◌∷◌, Result, IsErr, IfOk}
use native.Mathlib.Omega.{arith}
use Rattle.ckrt_disk.specs.declared.positioned.PositionedFile.{Ghosts}

-- a transfer of n bytes was given up after 2^64 - 1 calls: all of them but n at most were interrupted
abbrev pub GivesUp : {F : Type 0} → Ghosts F → F → F → ℕ → Type 0
GivesUp g old new n = g.interruptions old + (2 ^ 64 - 1) ≤ g.interruptions new + n

-- One call of a file, from old to new, on the way of a call of a disk for n bytes from `at` on. `done` of them were transferred before it,
-- and as many after it as `next` says.
pub record GoesOn {F E : Type 0} (g : Ghosts F) (old new : F) (at n done : ℕ) (next : Result ℕ E)
    : Type 0 where
  -- it goes on where the call is no error
  pub well : IfOk next (λ _. g.errors new ≡ g.errors old)
  pub fault : IsErr next → g.errors new ≡ g.errors old + 1
  -- after more bytes, or after one interruption more
  pub progress : IfOk next (λ k. g.interruptions old + (done + 1) ≤ g.interruptions new + k)
  pub interruptions : g.interruptions old ≤ g.interruptions new
  -- a reliable file lets it go on to its end
  pub reliable : IsErr next → g.is_reliable new → (done ≡ n) ⊎ (g.len old < at + n)
  pub is_reliable : g.is_reliable new → g.is_reliable old

-- The calls of a file, from old to new, that are one call of a disk. ok is whether that answers Ok: it doesn't exactly where one of
-- them is an error, or where it is given up.
pub record FailsWithFile {F : Type 0} (g : Ghosts F) (old new : F) (given_up : Type 0) (ok : Bool)
    : Type 0 where
  -- where the disk's call answers Ok none of them is an error
  pub well : ok ≡ true → g.errors new ≡ g.errors old
  -- where it doesn't just one of them is an error, or none is and it was given up
  pub fault : ok ≡ false
      → (g.errors new ≡ g.errors old + 1) ⊎ ((g.errors new ≡ g.errors old) × given_up)
  -- the count of interrupted calls doesn't fall
  pub interruptions : g.interruptions old ≤ g.interruptions new

-- a count as it was when the disk was made, from a list of the file as it was then
abbrev pub at_start : {F : Type 0} → (F → ℕ) → List F → ℕ
at_start count [] = 0
at_start count (start ∷ older) = count start

-- how much a count of the file has grown since the disk was made
abbrev pub since : {F : Type 0} → (F → ℕ) → List F → F → ℕ
since count start file = count file - at_start count start

-- the failures of a disk of `size` bytes over a file are the file's errors since the disk was made
pub record CountsErrors {F : Type 0} (g : Ghosts F) (start : List F) (file : F) (size failures : ℕ)
    : Type 0 where
  -- the file's counts haven't fallen
  pub errors : at_start g.errors start ≤ g.errors file
  pub interruptions : at_start g.interruptions start ≤ g.interruptions file
  -- each error of the file is a failure of the disk
  pub each : min (since g.errors start file) (2 ^ 64 - 1) ≤ failures
  -- and nothing else is, unless the file has interrupted that many calls that one may have been given up
  pub only : since g.interruptions start file + size < 2 ^ 64 - 1
      → failures ≡ min (since g.errors start file) (2 ^ 64 - 1)
  -- over a reliable file of its size it has never failed
  pub never : g.is_reliable file → g.len file ≡ size → failures ≡ 0

-- a file with few limits and few bytes, of whose calls at most `used` were interrupted
pub is_patient : (interruptions used limits bytes : ℕ) → interruptions ≤ used → used ≤ limits
    → limits + bytes < 2 ^ 64 - 1
    → interruptions + bytes < 2 ^ 64 - 1
is_patient interruptions used limits bytes interrupted within few =
    omega (arith, interrupted, within, few)
