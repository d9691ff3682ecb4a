-- A shadow in a room of slots, each for the cells of a part of 1,024 words (this project's choice): a part that is touched first takes the next
-- free slot. Where none is left the room is used up.
use Rattle.std.specs.Prelude.{◌≡◌, ◌≤◌, ◌<◌, ℕ, zero, suc, ◌+◌, ◌-◌, ◌*◌, ◌/◌, ◌%◌, ◌^◌, ◌==◌, nat_lt, Bool, true, false, if◌then◌else◌, List, length, map, get_or, slice_set, replicate, Option, None, Some, is_some}
use Rattle.std.specs.List.{range_with_len}
use Rattle.ckrt_look_clocks.specs.declared.shadow.Cell.{Cell}
use Rattle.ckrt_look_clocks.specs.Detection.{no_accesses}

-- THE SLOTS: by part of the memory the one that it took, how many are taken, how many there are, and whether a part more was touched
pub record Slots : Type 0 where
  pub by_part : List (Option ℕ)
  pub taken : ℕ
  pub count : ℕ
  pub is_full : Bool

-- no part of so many words was touched
abbrev pub no_slots : (words count : ℕ) → Slots
no_slots words count = record {
  by_part = replicate (words / 1024 + 1) None;
  taken = 0;
  count = count;
  is_full = false;
}

abbrev pub has_slot : (part : ℕ) → Slots → Bool
has_slot part s = is_some (get_or s.by_part part None)

-- a part takes the next one, if one is left
abbrev pub taking : (part : ℕ) → Slots → Slots
taking part s =
    if nat_lt s.taken s.count then
    record s { by_part = slice_set s.by_part part (Some s.taken); taken = s.taken + 1 }
    else record s { is_full = true }

-- a part is touched
abbrev pub touched : (part : ℕ) → Slots → Slots
touched part s = if has_slot part s then s else taking part s

-- so many parts are, from one on
abbrev pub touched_parts : (n first : ℕ) → Slots → Slots
touched_parts zero first s = s
touched_parts (suc n) first s = touched (first + n) (touched_parts n first s)

-- in how many parts so many words lie, from one on
abbrev pub parts_over : (n first : ℕ) → ℕ
parts_over n first = if n == 0 then 0 else (first + n - 1) / 1024 + 1 - first / 1024

-- the parts of these words have slots
abbrev pub HaveSlots : (n first : ℕ) → Slots → Type 0
HaveSlots n first s =
    (word : ℕ) → first ≤ word → word < first + n → has_slot (word / 1024) s ≡ true

-- THE CELLS of so many words: each lies in the slot of its part, and is without an access where that has none
abbrev pub cell_in : (place : ℕ) → List Cell → Option ℕ → Cell
cell_in place cells None = no_accesses
cell_in place cells (Some slot) = get_or cells (1024 * slot + place) no_accesses

abbrev pub cell_at : List (Option ℕ) → List Cell → (word : ℕ) → Cell
cell_at by_part cells word = cell_in (word % 1024) cells (get_or by_part (word / 1024) None)

abbrev pub cells_of : List (Option ℕ) → List Cell → (words : ℕ) → List Cell
cells_of by_part cells words = map (cell_at by_part cells) (range_with_len 0 words)

-- a room of so many cells at most has those of the slots that are taken, each by one part
pub record IsRoom (s : Slots) (cells : List Cell) (words room : ℕ) : Type 0 where
  pub parts : length s.by_part ≡ words / 1024 + 1
  pub filled : length cells ≡ 1024 * s.taken
  pub few : s.taken ≤ s.count
  pub room_for : 1024 * s.count ≤ room
  pub fits : 1024 * s.count < 2 ^ 64
  pub taken : (part slot : ℕ) → get_or s.by_part part None ≡ Some slot → slot < s.taken
  pub apart : (part other slot : ℕ) → get_or s.by_part part None ≡ Some slot
      → get_or s.by_part other None ≡ Some slot → part ≡ other

-- A SHADOW: the cell of each word, and the slots
pub record Shadowed : Type 0 where
  pub cells : List Cell
  pub slots : Slots

abbrev pub no_shadow : (words count : ℕ) → Shadowed
no_shadow words count =
    record { cells = replicate words no_accesses; slots = no_slots words count }
