-- Remembered places: each address has one of 256 slots.
use Rattle.std.specs.Prelude.{ℕ, ◌*◌, ◌/◌, ◌%◌}

-- the upper 8 of the 32 bits of the address times 2^32 divided by the golden ratio
abbrev pub slot_in : ℕ → ℕ
slot_in address = address * 2654435769 % 4294967296 / 16777216
