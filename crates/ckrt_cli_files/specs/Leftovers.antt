-- Whether a file that is there may become a disk: what a making that was cut leaves, and what is no disk and nobody's bytes.
use Rattle.std.specs.Prelude.{◌≡◌, ◌≢◌, ◌⊎◌, ◌&&◌, ◌||◌, ℕ, nat_eq, nat_lt, Bool, true, false, if◌then◌else◌, List, length, take, Ok}
use Rattle.std.specs.List.{list_all}
use Rattle.ckrt_stored.specs.Layout.{is_open, number_at}
use Rattle.ckrt_stored.specs.Filling.{smallest_disk}
use Rattle.ckrt_stored.specs.declared.fault.RecoverFault.{RecoverFault}
use Rattle.ckrt_stored.specs.declared.fault.RecoverFault.TheVariants.{Device, OutOfMemory}
use Rattle.ckrt_stored.specs.Recovery.{Recovered, Recovers}
use Rattle.ckrt_stored.specs.Superblock.{MAGIC}
use Rattle.ckrt_cli_files.specs.declared.leftover.FileKind.{FileKind}
use Rattle.ckrt_cli_files.specs.declared.leftover.FileKind.TheVariants.{Disk, Free, Foreign}

-- "CKRTMAKE" as a number, whose lowest byte comes first
abbrev pub MAKING : ℕ
MAKING = 4993156412253293379

-- what tells that a file is in the making: its gate and the bytes up to its name are zeros, and the name is that mark
abbrev pub is_marked : List ℕ → Bool
is_marked front = nat_eq (number_at 8 0 front) 0 && nat_eq (number_at 8 8 front) MAKING

-- A format that was cut may have put the name of a disk there already, behind a gate that is closed.
abbrev pub is_unnamed : List ℕ → Bool
is_unnamed front = nat_eq (number_at 8 0 front) 0 && nat_eq (number_at 8 8 front) MAGIC

-- the file is empty, or its first 16 bytes are those of one that is in the making
abbrev pub is_unfinished : List ℕ → Bool
is_unfinished image =
    if nat_lt (length image) 16
    then nat_eq (length image) 0
    else is_marked (take 16 image) || is_unnamed (take 16 image)

-- the image recovers to a program that hasn't begun, and has made no checkpoint
pub record HasNotBegun (image : List ℕ) : Type 0 where
  pub recovered : Recovered
  pub recovers : Recovers image (Ok recovered)
  pub no_event : recovered.count ≡ 0
  pub no_checkpoint : recovered.generation ≡ 1

-- a fault of recovery that tells what the bytes are
abbrev pub IsOfContent : RecoverFault → Type 0
IsOfContent fault = (fault ≢ Device) × (fault ≢ OutOfMemory)

-- A disk in the making isn't formatted yet, or only just.
abbrev pub IsInMaking : List ℕ → Type 0
IsInMaking image = (is_unfinished image ≡ true) ⊎ HasNotBegun image

-- nothing but zeros
abbrev pub is_zero : List ℕ → Bool
is_zero bytes = list_all (λ byte. nat_eq byte 0) bytes

-- a file whose first bytes may be written over: a making that was cut left it, or they are zeros
abbrev pub is_free : (size : ℕ) → List ℕ → Bool
is_free size image = is_unfinished image || is_zero (take size image)

-- a file is a disk where it is as long as the smallest one, its gate is open, and it has a disk's name
abbrev pub has_disk : List ℕ → Bool
has_disk image =
    if nat_lt (length image) smallest_disk then false
    else is_open image && nat_eq (number_at 8 8 (take 16 image)) MAGIC

-- what a file is that is to become a disk of that many bytes: a disk already, or free to be written over, or somebody's bytes
abbrev pub kind_of : (size : ℕ) → List ℕ → FileKind
kind_of size image =
    if has_disk image then Disk else if is_free size image then Free else Foreign
