-- What formatting refuses, where it writes, and what a stop of it leaves.
use Rattle.std.specs.Prelude.{◌≡◌, ◌+◌, ◌≤◌, ◌<◌, ◌⊎◌, not, ℕ, Bool, true, false, List, length, nat_lt, if◌then◌else◌, Option, Some, None, Result, Err, Ok, IfErr}
use Rattle.ckrt_disk.specs.Disk.{IsWithin}
use Rattle.ckrt_disk.specs.Frame.{AtAnyMoment, MayBeLeft, WritesWithin}
use Rattle.ckrt_disk.specs.declared.disk.Disk.{Ghosts}
use Rattle.ckrt_stored.specs.declared.config.Config.{Config}
use Rattle.ckrt_stored.specs.declared.fault.FormatFault.{FormatFault}
use Rattle.ckrt_stored.specs.declared.fault.FormatFault.TheVariants.{AlreadyFormatted, TooSmall, BadConfig, ImageTooLong, Device, OutOfMemory}
use Rattle.ckrt_stored.specs.declared.fault.RecoverFault.TheVariants.{NotFormatted}
use Rattle.ckrt_stored.specs.Layout.{is_valid, memory_size, size_needed, journal_at, is_open}
use Rattle.ckrt_stored.specs.Recovery.{Recovers}
use Rattle.ckrt_stored.specs.Programs.{RecoversToStart, formatted_program}
use Rattle.ckrt_stored.specs.Superblock.{note_for, note_of}

-- Why a disk of that many bytes isn't formatted with this configuration and this image: the first that applies.
abbrev pub format_refusal : ℕ → Config → List ℕ → Option FormatFault
format_refusal size c image =
    if not (is_valid c) then Some BadConfig
    else if nat_lt (memory_size c) (length image) then Some ImageTooLong
    else if nat_lt size (size_needed c) then Some TooSmall
    else None

-- the faults that depend on size, configuration and image alone
abbrev pub IsRefusal : FormatFault → Type 0
IsRefusal BadConfig = Unit {0}
IsRefusal ImageTooLong = Unit {0}
IsRefusal TooSmall = Unit {0}
IsRefusal AlreadyFormatted = ⊥
IsRefusal Device = ⊥
IsRefusal OutOfMemory = ⊥

-- The image is that of a program that hasn't begun, with this configuration and this guest image.
pub record IsFormatted (c : Config) (guest image : List ℕ) : Type 0 where
  -- what it recovers to
  pub recovers : RecoversToStart (formatted_program c guest) image
  -- and the program that its superblock notes
  pub noted : note_of image ≡ Some (note_for guest)

-- What a stop of formatting may leave: an image that was possible before it, one that isn't formatted, or one that is and has no event.
abbrev pub IsFormatting : {D : Type 0} → Config → List ℕ → Ghosts D → D → List ℕ → Type 0
IsFormatting c guest d disk image =
    MayBeLeft d disk image ⊎ Recovers image (Err NotFormatted) ⊎ IsFormatted c guest image

-- of an honest disk a stop at any moment since old leaves no more than that
abbrev pub LeavesFormatting : {D : Type 0} → Config → List ℕ → Ghosts D → (old new : D) → Type 0
LeavesFormatting c guest d old new = AtAnyMoment d old new (IsFormatting c guest d old)

-- where formatting writes: neither in journal 1 nor after the size that the configuration needs
abbrev pub FormatsAt : Config → ℕ → Type 0
FormatsAt c i = (i < size_needed c) × ¬ IsWithin (journal_at c 1) c.journal i

-- and after the first gate
abbrev pub FormatsBehindGate : Config → ℕ → Type 0
FormatsBehindGate c i = (1 ≤ i) × FormatsAt c i

-- the disk failed a call of it
abbrev pub is_device : {X : Type 0} → Result X FormatFault → Bool
is_device (Ok x) = false
is_device (Err AlreadyFormatted) = false
is_device (Err TooSmall) = false
is_device (Err BadConfig) = false
is_device (Err ImageTooLong) = false
is_device (Err Device) = true
is_device (Err OutOfMemory) = false

-- how many writes and syncs formatting makes, where the disk fails none of its calls
abbrev pub calls_of : {X : Type 0} → Result X FormatFault → ℕ
calls_of (Ok x) = 11
calls_of (Err AlreadyFormatted) = 1
calls_of (Err TooSmall) = 0
calls_of (Err BadConfig) = 0
calls_of (Err ImageTooLong) = 0
calls_of (Err Device) = 0
calls_of (Err OutOfMemory) = 0

-- the calls of the disk: it is written only where formatting writes, by as many writes and syncs as the answer says
abbrev pub IsFormatWrite : {D X : Type 0} → Ghosts D → Config → (old new : D) → Result X FormatFault
    → Type 0
IsFormatWrite d c old new result =
    WritesWithin d (FormatsAt c) (calls_of result) old new (is_device result)

-- where there is a refusal the answer is that one, and else none of them
abbrev pub IsRefusedBy : {X : Type 0} → Option FormatFault → Result X FormatFault → Type 0
IsRefusedBy (Some fault) result = result ≡ Err fault
IsRefusedBy None result = IfErr result (λ fault. ¬ IsRefusal fault)

-- the faults that come before the first call of the disk
abbrev pub ComesBeforeCalls : FormatFault → Type 0
ComesBeforeCalls fault = IsRefusal fault ⊎ (fault ≡ OutOfMemory)

-- A disk whose first gate is open stays as it is: it is synced at most once, and not written.
pub record StaysFormatted {D : Type 0} (d : Ghosts D) (old new : D) : Type 0 where
  -- a stop at any moment since old leaves what a stop before might have left
  pub any_moment : AtAnyMoment d old new (MayBeLeft d old)
  -- the sync is the only call that is counted
  pub calls : d.calls new ≤ d.calls old + 1

-- an honest disk whose first gate was open stays as it is
abbrev pub StaysIfFormatted : {D : Type 0} → Ghosts D → (old new : D) → Type 0
StaysIfFormatted d old new =
    d.is_honest new → is_open (d.content old) ≡ true → StaysFormatted d old new

-- The disk had an open first gate already, and reads as before.
pub record WasFormatted {D : Type 0} (d : Ghosts D) (old new : D) : Type 0 where
  -- its first gate
  pub gate : is_open (d.content old) ≡ true
  -- its bytes
  pub content : d.content new ≡ d.content old

-- where the answer is AlreadyFormatted an honest disk had an open first gate, and reads as before
abbrev pub TellsFormatted : {D X : Type 0} → Ghosts D → (old new : D) → Result X FormatFault
    → Type 0
TellsFormatted d old new result =
    result ≡ Err AlreadyFormatted → d.is_honest new → WasFormatted d old new

-- A disk was formatted with this configuration and this guest image.
pub record IsMade {D : Type 0} (d : Ghosts D) (c : Config) (guest : List ℕ) (old new : D)
    : Type 0 where
  -- its first gate was closed before
  pub was_closed : is_open (d.content old) ≡ false
  -- what was written is durable
  pub nothing_pending : (i : ℕ) → ¬ d.pending new i
  -- whatever a stop leaves of it recovers to the program before its first event
  pub formatted : (left : List ℕ) → MayBeLeft d new left → IsFormatted c guest left

-- an honest disk was formatted with this configuration and this guest image
abbrev pub FormatsDisk : {D : Type 0} → Ghosts D → Config → List ℕ → (old new : D) → Type 0
FormatsDisk d c guest old new = d.is_honest new → IsMade d c guest old new
