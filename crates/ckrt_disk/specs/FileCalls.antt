-- What a file answers that keeps the disk model. The bytes that it holds are given as a function: `held k` are those after
-- k calls.
use Rattle.std.specs.Prelude.{◌≡◌, ◌⊎◌, ◌+◌, ℕ, true, false, List, [], ◌∷◌, length, take, drop, refl}
use Rattle.std.proofs.Common.{◌∙◌, ap}
use Rattle.ckrt_disk.specs.Disk.{IsImage, IsOverwritten, IsWithin}
use Rattle.ckrt_disk.specs.declared.file_call.FileCall.{FileCall}
use Rattle.ckrt_disk.specs.declared.file_call.FileCall.TheVariants.{Read, Write, Sync}
use Rattle.ckrt_disk.specs.declared.transfer.Transfer.TheVariants.{Done, Interrupted, Failed}
use Rattle.ckrt_disk.specs.Transfer.{errors_after, interruptions_after}

-- the offsets that are pending after a call with these bytes
abbrev pub pending_after : FileCall → List ℕ → (ℕ → Type 0) → ℕ → Type 0
pending_after (Read at answer) bytes pending i = pending i
pending_after (Write at answer) bytes pending i = pending i ⊎ IsWithin at (length bytes) i
pending_after (Sync true) bytes pending i = ⊥
pending_after (Sync false) bytes pending i = pending i

-- A call with these bytes, and its answer, are those of a file that keeps the model and held `old` before it and `new` after
-- it, where these offsets are pending after it.
abbrev pub Keeps : FileCall → List ℕ → (ℕ → Type 0) → List ℕ → List ℕ → Type 0
Keeps (Read at (Done n)) bytes pending old new = (take n bytes ≡ take n (drop at old)) × (new ≡ old)
Keeps (Read at Interrupted) bytes pending old new = new ≡ old
Keeps (Read at Failed) bytes pending old new = new ≡ old
Keeps (Write at (Done n)) bytes pending old new =
    IsOverwritten old at (take n bytes) new × (length new ≡ length old)
Keeps (Write at Interrupted) bytes pending old new = new ≡ old
Keeps (Write at Failed) bytes pending old new = IsImage old pending new
Keeps (Sync true) bytes pending old new = new ≡ old
Keeps (Sync false) bytes pending old new = IsImage old pending new

-- the offsets that are pending after these calls, of which the newest is the first
abbrev pub pending_of : (ℕ → Type 0) → List (FileCall × List ℕ) → ℕ → Type 0
pending_of unsettled [] = unsettled
pending_of unsettled (c ∷ cs) = pending_after c.0 c.1 (pending_of unsettled cs)

-- the count of errors after a call
abbrev pub errors_with : FileCall → ℕ → ℕ
errors_with (Read at answer) errors = errors_after answer errors
errors_with (Write at answer) errors = errors_after answer errors
errors_with (Sync true) errors = errors
errors_with (Sync false) errors = errors + 1

-- the count of interrupted calls after a call
abbrev pub interruptions_with : FileCall → ℕ → ℕ
interruptions_with (Read at answer) interruptions = interruptions_after answer interruptions
interruptions_with (Write at answer) interruptions = interruptions_after answer interruptions
interruptions_with (Sync done) interruptions = interruptions

-- how many of these calls failed
abbrev pub errors_of : List (FileCall × List ℕ) → ℕ
errors_of [] = 0
errors_of (c ∷ cs) = errors_with c.0 (errors_of cs)

-- how many of them a signal interrupted
abbrev pub interruptions_of : List (FileCall × List ℕ) → ℕ
interruptions_of [] = 0
interruptions_of (c ∷ cs) = interruptions_with c.0 (interruptions_of cs)

-- each of these calls was answered as the model says
abbrev pub HasKept : (ℕ → List ℕ) → (ℕ → Type 0) → List (FileCall × List ℕ) → Type 0
HasKept held unsettled [] = Unit {0}
HasKept held unsettled (c ∷ cs) =
    HasKept held unsettled cs
    × Keeps c.0 c.1 (pending_of unsettled (c ∷ cs)) (held (length cs)) (held (length (c ∷ cs)))

keeps_length : (call : FileCall) (bytes : List ℕ) (pending : ℕ → Type 0) (old new : List ℕ)
    → Keeps call bytes pending old new → length new ≡ length old
keeps_length (Read at (Done n)) bytes pending old new kept = ap length kept.1
keeps_length (Read at Interrupted) bytes pending old new kept = ap length kept
keeps_length (Read at Failed) bytes pending old new kept = ap length kept
keeps_length (Write at (Done n)) bytes pending old new kept = kept.1
keeps_length (Write at Interrupted) bytes pending old new kept = ap length kept
keeps_length (Write at Failed) bytes pending old new kept = kept.size
keeps_length (Sync true) bytes pending old new kept = ap length kept
keeps_length (Sync false) bytes pending old new kept = kept.size

-- a file that has kept the model is as long as it was
pub same_length : (held : ℕ → List ℕ) (unsettled : ℕ → Type 0) (calls : List (FileCall × List ℕ))
    → HasKept held unsettled calls → length (held (length calls)) ≡ length (held 0)
same_length held unsettled [] kept = refl
same_length held unsettled (c ∷ cs) kept =
    keeps_length c.0 c.1 _ _ _ kept.1 ∙ same_length held unsettled cs kept.0
