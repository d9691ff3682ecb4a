-- What calls leave of a disk as it was: the words in which the layers above say it. Each record is over the ghosts d of a kind of disk, the
-- disk before the calls, old, and after them, new.
use Rattle.std.specs.Prelude.{◌≡◌, ◌⊎◌, ◌↔◌, ◌+◌, ℕ, Bool, true, false, List, Some}
use Rattle.ckrt_disk.specs.Disk.{IsImage, LeavesOnly, IsStopped, HasFailed}
use Rattle.ckrt_disk.specs.declared.disk.Disk.{Ghosts}

-- the region that has no offset
abbrev pub Nowhere : ℕ → Type 0
Nowhere i = ⊥

-- new has the bytes of old outside a region, which is given by its offsets
abbrev pub IsSameOutside : (ℕ → Type 0) → List ℕ → List ℕ → Type 0
IsSameOutside region old new = IsImage old region new

-- what a stop now may leave of the disk
abbrev pub MayBeLeft : {D : Type 0} → Ghosts D → D → List ℕ → Type 0
MayBeLeft d disk image = IsImage (d.content disk) (d.pending disk) image

-- a stop at any moment since old leaves what a stop before might have left, or an image that has P
abbrev pub AtAnyMoment : {D : Type 0} → Ghosts D → (old new : D) → (List ℕ → Type 0) → Type 0
AtAnyMoment d old new P = d.is_honest new → LeavesOnly d.moment d.left_since old new P

-- what no call of a disk changes
pub record IsSameDisk {D : Type 0} (d : Ghosts D) (old new : D) : Type 0 where
  -- if it is honest after the calls it was honest before them
  pub honest : d.is_honest new → d.is_honest old
  -- the number of its bytes
  pub size : d.size new ≡ d.size old
  -- the call at which it is to stop
  pub named_stop : d.named_stop new ≡ d.named_stop old

-- The disk was only read, as often as may be; failed is whether the last read failed. No read before it did.
pub record IsOnlyRead {D : Type 0} (d : Ghosts D) (old new : D) (failed : Bool) : Type 0 where
  -- a stop at any moment since old leaves what a stop before might have left
  pub any_moment : AtAnyMoment d old new (λ _. ⊥)
  -- it reads as before
  pub content : d.is_honest new → d.content new ≡ d.content old
  -- what is pending was pending before
  pub pending : d.is_honest new → (i : ℕ) → (d.pending new i ↔ d.pending old i)
  -- it is the same disk
  pub same : IsSameDisk d old new
  -- no write or sync was counted
  pub calls : d.calls new ≡ d.calls old
  -- no failure was counted, unless it failed
  pub well : failed ≡ false → d.failures new ≡ d.failures old
  -- where it failed the failures grew
  pub fault : failed ≡ true → HasFailed (d.failures old) (d.failures new)
  -- where it names a stop it failed only after that
  pub never : (s : ℕ) → d.named_stop old ≡ Some s → failed ≡ true → IsStopped s (d.calls old)

-- The disk was written in a region alone, and read and synced as often as may be; failed is whether the last of these calls failed. No call
-- before it did, and they were n writes and syncs.
pub record WritesWithin {D : Type 0} (d : Ghosts D) (region : ℕ → Type 0) (n : ℕ) (old new : D)
    (failed : Bool) : Type 0 where
  -- a stop at any moment since old leaves what a stop before might have left, but for bytes of the region
  pub any_moment : AtAnyMoment d old new
      (IsSameOutside (λ i. d.pending old i ⊎ region i) (d.content old))
  -- it reads as before outside the region, unless it failed
  pub content : failed ≡ false → d.is_honest new
      → IsSameOutside region (d.content old) (d.content new)
  -- either way it reads as before outside the region and what was pending
  pub torn : d.is_honest new
      → IsSameOutside (λ i. d.pending old i ⊎ region i) (d.content old) (d.content new)
  -- what is pending was pending before, or lies in the region
  pub pending : d.is_honest new → (i : ℕ) → d.pending new i → d.pending old i ⊎ region i
  -- it is the same disk
  pub same : IsSameDisk d old new
  -- n writes and syncs were counted, unless it failed
  pub calls : failed ≡ false → d.calls new ≡ d.calls old + n
  -- no failure was counted, unless it failed
  pub well : failed ≡ false → d.failures new ≡ d.failures old
  -- where it failed the failures grew
  pub fault : failed ≡ true → HasFailed (d.failures old) (d.failures new)

-- where the disk names a stop and has reached it, a call failed
abbrev pub FailsBehindStop : {D : Type 0} → Ghosts D → D → Bool → Type 0
FailsBehindStop d disk failed =
    (s : ℕ) → d.named_stop disk ≡ Some s → IsStopped s (d.calls disk) → failed ≡ true
