-- What is known of slots.
use Rattle.std.specs.Prelude.{◌≡◌, ◌<◌, ◌^◌, Some}
use Rattle.ckrt_drive.specs.declared.slot.Slot.{Slot}
use Rattle.ckrt_drive.specs.Slot.{TAKEN_LIMIT, slot_bytes, slot_in}

-- the fields of a slot are in their ranges
pub record IsInRange (s : Slot) : Type 0 where
  pub generation : s.generation < 2 ^ 64
  pub count : s.count < 2 ^ 64
  pub taken : s.taken < TAKEN_LIMIT

-- a slot that was written reads as it is
abbrev pub ReadsBack : Type 0
ReadsBack = (s : Slot) → IsInRange s → slot_in (slot_bytes s) ≡ Some s
