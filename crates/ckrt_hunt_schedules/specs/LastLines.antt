-- The last line of an output that has a byte (this project's choice): a line feed, or the end of the output, ends a line. Of a line the first
-- 200 bytes are held.
use Rattle.std.specs.Prelude.{ℕ, ◌==◌, nat_lt, true, false, if◌then◌else◌, List, [], ◌∷◌, ◌++◌, length}
use Rattle.std.specs.List.{fold}
use Rattle.ckrt_hunt_schedules.specs.declared.last_line.LastLine.{LastLine}
use Rattle.ckrt_hunt_schedules.specs.declared.last_line.TheConstants.{LINE_BYTES}

abbrev pub no_line : LastLine
no_line = record { bytes = record { items = [] }; is_longer = false; is_over = false }

-- one byte more of the line, held where there is room
abbrev pub with_byte : (b : ℕ) → LastLine → LastLine
with_byte b l =
    if nat_lt (length l.bytes.items) LINE_BYTES then record l { bytes = record { items = l.bytes.items ++ b ∷ [] } }
    else record l { is_longer = true }

-- behind a line feed another line begins
abbrev pub begun : LastLine → LastLine
begun l = if l.is_over then no_line else l

-- one byte more of the output
abbrev pub heard : LastLine → (b : ℕ) → LastLine
heard l b = if b == 10 then record l { is_over = true } else with_byte b (begun l)

abbrev pub last_line : (output : List ℕ) → LastLine
last_line output = fold heard no_line output
