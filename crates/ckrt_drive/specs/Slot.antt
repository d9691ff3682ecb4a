-- The slots of a drive's record, after the bytes of the format (this project's own format). Numbers have their lowest byte first.
use Rattle.std.specs.Prelude.{◌+◌, ◌*◌, ◌^◌, ◌&&◌, ℕ, List, ◌++◌, length, take, drop, nat_eq, nat_lt, if◌then◌else◌, Option, Some, None}
use Rattle.byteorder.specs.Endian.{little_bytes}
use Rattle.ckrt_stored.specs.declared.config.Config.{Config}
use Rattle.ckrt_stored.specs.Layout.{number_at, size_needed}
use Rattle.ckrt_drive.specs.declared.slot.Slot.{Slot}

-- "CKRTFEED"
abbrev pub MAGIC : ℕ
MAGIC = 4919414336336841539

abbrev pub RECORD_VERSION : ℕ
RECORD_VERSION = 1

-- the bytes of a slot
abbrev pub SLOT_BYTES : ℕ
SLOT_BYTES = 40

-- the bytes of the record
abbrev pub RECORD_BYTES : ℕ
RECORD_BYTES = 4096

-- a program takes fewer bytes of input than this
abbrev pub TAKEN_LIMIT : ℕ
TAKEN_LIMIT = 2 ^ 62

-- a slot as bytes
abbrev pub slot_bytes : Slot → List ℕ
slot_bytes s =
    little_bytes 8 MAGIC ++ little_bytes 8 RECORD_VERSION ++ little_bytes 8 s.generation
    ++ little_bytes 8 s.count ++ little_bytes 8 s.taken

-- the slot that 40 bytes are, if they are one: those that no drive wrote have another magic number
abbrev pub slot_in : List ℕ → Option Slot
slot_in block =
    if nat_eq (number_at 8 0 block) MAGIC && (nat_eq (number_at 8 8 block) RECORD_VERSION && nat_lt (number_at 8 32 block) TAKEN_LIMIT)
    then Some (record { generation = number_at 8 16 block; count = number_at 8 24 block; taken = number_at 8 32 block })
    else None

-- Where the slot of an area lies after the bytes of the format: each has half of 4,096 bytes, so that no sector of up to 2,048 bytes has bytes
-- of both.
abbrev pub slot_offset : (area : ℕ) → ℕ
slot_offset area = 2048 * area

-- and on the disk
abbrev pub slot_at : Config → (area : ℕ) → ℕ
slot_at c area = size_needed c + slot_offset area

-- the slot of an area, if it has one; a disk that ends before it has none
abbrev pub slot_of : Config → (area : ℕ) → (image : List ℕ) → Option Slot
slot_of c area image = if nat_lt (length image) (slot_at c area + SLOT_BYTES) then None else slot_in (take SLOT_BYTES (drop (slot_at c area) image))
