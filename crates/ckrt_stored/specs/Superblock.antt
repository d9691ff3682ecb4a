-- The superblock of a disk: its fields from its bytes and as bytes (this project's own format).
use Rattle.std.specs.Prelude.{◌&&◌, ◌||◌, not, ℕ, Bool, List, ◌++◌, length, take, drop, nat_lt, nat_le, nat_eq, if◌then◌else◌, Option, Some, None, Result, Ok, Err}
use Rattle.byteorder.specs.Endian.{little_bytes}
use Rattle.sha2.specs.Sha256.{sha256}
use Rattle.ckrt_stored.specs.declared.config.Config.{Config}
use Rattle.ckrt_stored.specs.Layout.{is_valid, is_open, number_at, size_needed}
use Rattle.ckrt_stored.specs.declared.note.ProgramNote.{ProgramNote}
use Rattle.ckrt_stored.specs.declared.fault.RecoverFault.{RecoverFault}
use Rattle.ckrt_stored.specs.declared.fault.RecoverFault.TheVariants.{NotFormatted, Version, Damaged}

-- "CKRTDISK"
abbrev pub MAGIC : ℕ
MAGIC = 5427762533732862787

-- the version that has no note of the program, and the one that has it
abbrev pub is_known_superblock : ℕ → Bool
is_known_superblock version = nat_eq version 1 || nat_eq version 3

-- the configuration that a disk of that many bytes may have
abbrev pub config_within : ℕ → Config → Result Config RecoverFault
config_within size c = if is_valid c && nat_le (size_needed c) size then Ok c else Err Damaged

-- The first 32 bytes of a superblock: the first that applies of closed, another magic number, another version, out of range.
abbrev pub superblock_in : ℕ → List ℕ → Result Config RecoverFault
superblock_in size block =
    if not (is_open block) then Err NotFormatted
    else if not (nat_eq (number_at 8 8 block) MAGIC) then Err NotFormatted
    else if not (is_known_superblock (number_at 4 16 block)) then Err Version
    else config_within size (record { pages = number_at 4 20 block; harts = number_at 4 24 block; journal = number_at 4 28 block })

-- the configuration of a disk's superblock
abbrev pub superblock_of : List ℕ → Result Config RecoverFault
superblock_of image = if nat_lt (length image) 32 then Err NotFormatted else superblock_in (length image) (take 32 image)

-- THE NOTE OF THE PROGRAM

-- the note of a program with this image
abbrev pub note_for : (guest : List ℕ) → ProgramNote
note_for guest = record { digest = sha256 guest; bytes = length guest }

-- the superblock has notes: its gate is open, and its version is the one that has them
abbrev pub has_notes : List ℕ → Bool
has_notes block =
    is_open block && (nat_eq (number_at 8 8 block) MAGIC && nat_eq (number_at 4 16 block) 3)

-- the note that a superblock's first 72 bytes have, where it has notes
abbrev pub note_in : List ℕ → Option ProgramNote
note_in block =
    if has_notes block
    then Some (record { digest = take 32 (drop 32 block); bytes = number_at 8 64 block })
    else None

-- the note of a disk's program, where that is known
abbrev pub note_of : List ℕ → Option ProgramNote
note_of image = if nat_lt (length image) 72 then None else note_in (take 72 image)

-- FORMATTING

-- bytes 8..72 of a superblock, as they are written for a program with this image
abbrev pub superblock_fields : Config → (guest : List ℕ) → List ℕ
superblock_fields c guest =
    little_bytes 8 MAGIC ++ little_bytes 4 3 ++ little_bytes 4 c.pages ++ little_bytes 4 c.harts
    ++ little_bytes 4 c.journal ++ sha256 guest ++ little_bytes 8 (length guest)
