-- The filling of a file that is to be a disk. The disk has the bytes of the file and, after the file's end, what may lie there.
use Rattle.std.specs.Prelude.{◌≡◌, ◌⊎◌, ◌<◌, ◌≤◌, ◌-◌, ◌++◌, ℕ, false, List, length, replicate, codes, slice_index, Result, is_err}
use Rattle.ckrt_disk.specs.Frame.{IsSameOutside, MayBeLeft, WritesWithin}
use Rattle.ckrt_disk.specs.declared.disk.Disk.{Ghosts}
use Rattle.ckrt_stored.specs.Layout.{is_open}

-- the bytes of the first block, which has the gate of a disk
abbrev pub block : ℕ
block = 4096

-- the bytes of the smallest disk: a file of fewer was never formatted
abbrev pub smallest_disk : ℕ
smallest_disk = 348160

-- The mark of a file that is in the making. It stands where the format puts the name of a disk, which is as long.
abbrev pub making_mark : List ℕ
making_mark = codes "CKRTMAKE"

-- how such a file begins: its gate is closed, and the mark stands behind it
abbrev pub making_front : List ℕ
making_front = replicate 8 0 ++ making_mark

-- the byte at an offset of a file that is filled from its start: zeros are behind its front
abbrev pub filled_byte : ℕ → ℕ
filled_byte i = slice_index making_front i

-- Where a file of that many bytes is filled: wherever it is shorter than any disk, and else after its end.
abbrev pub FillsAt : (length : ℕ) → ℕ → Type 0
FillsAt length i = (length < smallest_disk) ⊎ (length ≤ i)

-- a disk was written, read and synced, and written only in a region; the number of its writes and syncs isn't said
abbrev pub WritesOnly : {D X E : Type 0} → Ghosts D → (region : ℕ → Type 0) → (old new : D)
    → Result X E → Type 0
WritesOnly d region old new result =
    WritesWithin d region (d.calls new - d.calls old) old new (is_err result)

-- there are zeros from one offset on
abbrev pub IsZeroFrom : (from : ℕ) → List ℕ → Type 0
IsZeroFrom from bytes = (i : ℕ) → from ≤ i → slice_index bytes i ≡ 0

-- wherever a file of that many bytes is filled it has the bytes of a filled one
abbrev pub IsFilled : (before : ℕ) → List ℕ → Type 0
IsFilled before bytes =
    (i : ℕ) → FillsAt before i → i < length bytes → slice_index bytes i ≡ filled_byte i

-- What a stop leaves of a file that is shorter than any disk: all but its first block is as it was, so that it is too short still; or its gate is
-- closed.
abbrev pub IsBegun : {D : Type 0} → Ghosts D → D → List ℕ → Type 0
IsBegun d disk image = IsSameOutside (λ i. d.pending disk i ⊎ (i < block)) (d.content disk) image ⊎ (is_open image ≡ false)

-- What a stop leaves of a file with a closed gate that is long enough for a disk: what a stop before might have left, or a closed gate.
abbrev pub IsClosed : {D : Type 0} → Ghosts D → D → List ℕ → Type 0
IsClosed d disk image = MayBeLeft d disk image ⊎ (is_open image ≡ false)
