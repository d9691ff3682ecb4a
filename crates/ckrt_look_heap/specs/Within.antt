-- What is noted in a room of slots: note by note as with the whole shadow, until the room is used up. From then on nothing is noted.
use Rattle.std.specs.Prelude.{◌≡◌, ◌≤◌, ℕ, ◌+◌, ◌/◌, Bool, true, false, if◌then◌else◌, List, [], ◌∷◌, get_or}
use Rattle.std.proofs.Common.{sym, true≢false}
use Rattle.ckrt_look_heap.specs.declared.block.Access.{Access}
use Rattle.ckrt_look_heap.specs.declared.block.Cell.{Cell}
use Rattle.ckrt_look_heap.specs.declared.block.Cell.TheVariants as cell
use Rattle.ckrt_look_heap.specs.declared.block.Change.{Change}
use Rattle.ckrt_look_heap.specs.declared.block.Part.{Part}
use Rattle.ckrt_look_heap.specs.declared.shadow.Note.{Note}
use Rattle.ckrt_look_heap.specs.declared.shadow.Note.TheVariants as note
use Rattle.ckrt_look_heap.specs.Parts.{Room, altered, no_slots, split_for}
use Rattle.ckrt_look_heap.specs.Shadow.{Heap, behind, behind_all, few, fresh, head_of, is_begin, part_of}

-- what was noted, and the room
pub record Noted : Type 0 where
  pub heap : Heap
  pub room : Room

abbrev pub is_full : Noted → Bool
is_full s = s.room.is_full

-- the room once something else is told of a part of memory, as far as the memory has it
abbrev pub room_by : Part → Heap → Room → Room
room_by p h r = split_for (few p h.cells) p.first r

abbrev pub room_by_free : Access → Cell → Heap → Room → Room
room_by_free a (cell.Given b) h r = if is_begin a b then room_by (part_of b) h r else r
room_by_free a c h r = r

-- the room that a note needs
abbrev pub room_for : Note → Heap → Room → Room
room_for (note.Use a) h r = r
room_for (note.Give b) h r = room_by (part_of b) h r
room_for (note.GiveBack a t) h r =
    room_by_free a (get_or h.cells (head_of a) cell.Unknown) h r
room_for (note.Disown p m) h r = room_by p h r
room_for (note.End e) h r = r

-- with this room there is something else, unless the room is too small
abbrev pub with_room : Room → (before after : Heap) → Noted
with_room r h g = record { heap = if r.is_full then h else g; room = r }

abbrev pub noted_with : Room → Note → Heap → Noted
noted_with r n h = with_room r h (behind n h)

abbrev pub noted_one : Note → Noted → Noted
noted_one n s = if is_full s then s else noted_with (room_for n s.heap s.room) n s.heap

-- something else is told of the words of a part of memory
abbrev pub changed_in : Part → Change → Heap → Heap
changed_in p ch h = record h { cells = altered (few p h.cells) p.first ch h.cells }

abbrev pub changes : Part → Change → Noted → Noted
changes p ch s = with_room (room_by p s.heap s.room) s.heap (changed_in p ch s.heap)

-- something was told of memory that is no block's
abbrev pub with_told : Noted → Noted
with_told s = with_room s.room s.heap (record s.heap { is_told = true })

-- notes in order
abbrev pub noted_all : List Note → Noted → Noted
noted_all [] s = s
noted_all (n ∷ ns) s = noted_all ns (noted_one n s)

-- a room that is used up stays so
stays_chosen : (t : Bool) (s more : Noted) → t ≡ true → is_full s ≡ true → is_full (if t then s else more) ≡ true
stays_chosen true s more is full = full
stays_chosen false s more is full = absurd (true≢false (sym is))

pub full_stays : (ns : List Note) (s : Noted) → is_full s ≡ true → is_full (noted_all ns s) ≡ true
full_stays [] s full = full
full_stays (n ∷ ns) s full =
    full_stays ns (noted_one n s)
    (stays_chosen (is_full s) s (noted_with (room_for n s.heap s.room) n s.heap) full full)

-- nothing was told yet of so many words, from the program's begin on or not, in a room of so many slots
abbrev pub fresh_within : (is_whole : Bool) → (words slots : ℕ) → Noted
fresh_within w words slots = record { heap = fresh w words; room = no_slots words slots }

-- NOTHING IS LEFT OUT where the room isn't used up in the end: then it never was, and all is as with the whole shadow
abbrev pub NothingIsLeftOut : Type 0
NothingIsLeftOut =
    (w : Bool) (words slots : ℕ) (ns : List Note)
    → is_full (noted_all ns (fresh_within w words slots)) ≡ false
    → (noted_all ns (fresh_within w words slots)).heap ≡ behind_all ns (fresh w words)

-- A ROOM FOR ALL PARTS ISN'T USED UP
abbrev pub RoomForAllSuffices : Type 0
RoomForAllSuffices =
    (w : Bool) (words slots : ℕ) (ns : List Note) → words / 1024 + 1 ≤ slots
    → is_full (noted_all ns (fresh_within w words slots)) ≡ false
