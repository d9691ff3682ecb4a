-- What was told of words, by parts of 1,024 of them, as a page has (this project's choice): a part whose words all have the same told of them has one cell. Where they may
-- differ it has a slot of a room, with a cell for each. A part that needs one takes the next free slot, and where none is left the room is used up.
use Rattle.std.specs.Prelude.{◌≡◌, ◌⊎◌, ◌≤◌, ◌<◌, ℕ, zero, suc, ◌+◌, ◌*◌, ◌/◌, ◌%◌, ◌^◌, ◌==◌, nat_lt, Bool, true, false, if◌then◌else◌, List, length, map, get_or, slice_set, replicate}
use Rattle.std.specs.List.{range_with_len}
use Rattle.ckrt_look_heap.specs.declared.block.Cell.{Cell}
use Rattle.ckrt_look_heap.specs.declared.block.Cell.TheVariants as cell
use Rattle.ckrt_look_heap.specs.declared.block.Change.{Change}
use Rattle.ckrt_look_heap.specs.declared.parts.Told.{Told}
use Rattle.ckrt_look_heap.specs.declared.parts.Told.TheVariants as told
use Rattle.ckrt_look_heap.specs.Shadow.{changed_by}

-- THE ROOM: by part whether it has a slot, how many are taken, how many there are, and whether one more was needed
pub record Room : Type 0 where
  pub has : List Bool
  pub taken : ℕ
  pub count : ℕ
  pub is_full : Bool

-- no part of so many words has one
abbrev pub no_slots : (words count : ℕ) → Room
no_slots words count = record {
  has = replicate (words / 1024 + 1) false;
  taken = 0;
  count = count;
  is_full = false;
}

-- a part takes the next one, if one is left
abbrev pub taking : (part : ℕ) → Room → Room
taking part r =
    if nat_lt r.taken r.count then
    record r { has = slice_set r.has part true; taken = r.taken + 1 }
    else record r { is_full = true }

-- the words of a part may differ from here on
abbrev pub split : (part : ℕ) → Room → Room
split part r = if get_or r.has part false then r else taking part r

-- something else is told of a word than of the one before it
abbrev pub split_at : (word : ℕ) → Room → Room
split_at word r = if word % 1024 == 0 then r else split (word / 1024) r

-- something else is told of so many words, from one on: only a part of which these aren't all needs a slot
abbrev pub split_for : (n first : ℕ) → Room → Room
split_for n first r = if n == 0 then r else split_at (first + n) (split_at first r)

-- a word begins a part, or may differ from the one before it
abbrev pub IsSplitAt : (word : ℕ) → Room → Type 0
IsSplitAt word r = (word % 1024 ≡ 0) ⊎ (get_or r.has (word / 1024) false ≡ true)

-- something else is told of so many words, from one on
abbrev pub altered_at : (word : ℕ) → Change → List Cell → List Cell
altered_at word ch cells =
    slice_set cells word (changed_by ch (get_or cells word cell.Unknown))

abbrev pub altered : (n first : ℕ) → Change → List Cell → List Cell
altered zero first ch cells = cells
altered (suc n) first ch cells = altered_at (first + n) ch (altered n first ch cells)

-- THE CELLS of so many words, by what each part has
abbrev pub cell_in : (place : ℕ) → List Cell → Told → Cell
cell_in place cells (told.Same c) = c
cell_in place cells (told.Each slot) = get_or cells (1024 * slot + place) cell.Unknown

abbrev pub cell_at : List Told → List Cell → (word : ℕ) → Cell
cell_at parts cells word =
    cell_in (word % 1024) cells (get_or parts (word / 1024) (told.Same cell.Unknown))

abbrev pub cells_of : List Told → List Cell → (words : ℕ) → List Cell
cells_of parts cells words = map (cell_at parts cells) (range_with_len 0 words)

abbrev pub has_own : Told → Bool
has_own (told.Same c) = false
has_own (told.Each slot) = true

abbrev pub room_of : List Told → (taken count : ℕ) → (is_full : Bool) → Room
room_of parts taken count is_full =
    record { has = map has_own parts; taken = taken; count = count; is_full = is_full }

-- a room of so many cells at most has those of the slots that are taken, each by one part
pub record IsRoom (each : List Told) (cells : List Cell) (r : Room) (words room : ℕ) : Type 0 where
  pub parts : length each ≡ words / 1024 + 1
  pub filled : length cells ≡ 1024 * r.taken
  pub few : r.taken ≤ r.count
  pub room_for : 1024 * r.count ≤ room
  pub fits : 1024 * r.count < 2 ^ 64
  pub taken : (part slot : ℕ)
      → get_or each part (told.Same cell.Unknown) ≡ told.Each slot → slot < r.taken
  pub apart : (part other slot : ℕ)
      → get_or each part (told.Same cell.Unknown) ≡ told.Each slot
      → get_or each other (told.Same cell.Unknown) ≡ told.Each slot → part ≡ other

-- THE CELLS AND THE ROOM
pub record Parted : Type 0 where
  pub cells : List Cell
  pub room : Room
