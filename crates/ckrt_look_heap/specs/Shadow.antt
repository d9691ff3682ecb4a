-- The shadow of a heap: what was told last of each word of memory, and which loads, stores and frees it doesn't allow (this project's
-- choice; C11, 7.22.3 Memory management functions: a block's lifetime, and what may be freed).
use Rattle.std.specs.Prelude.{ℕ, zero, suc, ◌+◌, ◌-◌, ◌*◌, ◌/◌, ◌==◌, nat_le, nat_lt, min, Bool, true, false, ◌&&◌, if◌then◌else◌, List, [], ◌∷◌, ◌++◌, length, get_or, slice_get, slice_set, replicate, Option, Some, None}
use Rattle.std.specs.List.{list_any}
use Rattle.ckrt_look_heap.specs.declared.block.Access.{Access}
use Rattle.ckrt_look_heap.specs.declared.block.Block.{Block}
use Rattle.ckrt_look_heap.specs.declared.block.Cell.{Cell}
use Rattle.ckrt_look_heap.specs.declared.block.Cell.TheVariants as cell
use Rattle.ckrt_look_heap.specs.declared.block.Change.{Change}
use Rattle.ckrt_look_heap.specs.declared.block.Change.TheVariants as change
use Rattle.ckrt_look_heap.specs.declared.block.Deed.{Deed}
use Rattle.ckrt_look_heap.specs.declared.block.Deed.TheVariants as deed
use Rattle.ckrt_look_calls.specs.declared.moment.Moment.{Moment}
use Rattle.ckrt_look_heap.specs.declared.block.Part.{Part}
use Rattle.ckrt_look_heap.specs.declared.finding.Finding.{Finding}
use Rattle.ckrt_look_heap.specs.declared.finding.TheConstants.{FINDINGS}
use Rattle.ckrt_look_heap.specs.declared.found.Findings.{Findings}
use Rattle.ckrt_look_heap.specs.declared.shadow.Note.{Note}
use Rattle.ckrt_look_heap.specs.declared.shadow.Note.TheVariants as note

-- A BLOCK has its bytes behind its first word

abbrev pub begin_of : Block → ℕ
begin_of b = 4 * b.first + 4

abbrev pub part_of : Block → Part
part_of b = record { first = b.first; count = b.count }

-- AN ACCESS is right where its bytes are those of a block that wasn't given back, or nothing was told of its word

abbrev pub is_load : Deed → Bool
is_load deed.Load = true
is_load deed.Store = false
is_load deed.Free = false

-- of a word that is loaded whole the first byte is enough: functions of strings go over memory by words
abbrev pub needed : Access → ℕ
needed a = if is_load a.deed && a.size == 4 then 1 else a.size

abbrev pub is_within : Access → Block → Bool
is_within a b =
    nat_le (begin_of b) a.address && nat_le (a.address + needed a) (begin_of b + b.bytes)

abbrev pub may_use : Access → Cell → Bool
may_use a cell.Unknown = true
may_use a cell.Unowned = false
may_use a (cell.Given b) = is_within a b
may_use a (cell.GivenBack b m) = false
may_use a (cell.Ended b m) = false

-- what was told of its word, if it is an error
abbrev pub wrong : Access → Option Cell → Option Cell
wrong a None = None
wrong a (Some c) = if may_use a c then None else Some c

-- WHAT WAS FOUND: errors by what is done, its place in the program and where that was called from, and by the kind of what was told of
-- the word; of each the first one, and how often

abbrev pub number_of : Deed → ℕ
number_of deed.Load = 0
number_of deed.Store = 1
number_of deed.Free = 2

abbrev pub kind_of : Cell → ℕ
kind_of cell.Unknown = 0
kind_of cell.Unowned = 1
kind_of (cell.Given b) = 2
kind_of (cell.GivenBack b m) = 3
kind_of (cell.Ended b m) = 4

pub record Found : Type 0 where
  pub rows : List Finding
  pub others : ℕ

abbrev pub found_in : Findings → Found
found_in f = record { rows = f.rows.items; others = f.others }

abbrev pub no_findings : Found
no_findings = record { rows = []; others = 0 }

-- one more, as far as 64 bits count
abbrev pub one_more : ℕ → ℕ
one_more n = min (n + 1) 18446744073709551615

abbrev pub is_at : Access → Cell → Finding → Bool
is_at a c f =
    number_of a.deed == number_of f.access.deed && (a.pc == f.access.pc
    && (a.link == f.access.link && kind_of c == kind_of f.cell))

-- the first row of this place counts one more
abbrev pub counted : Access → Cell → List Finding → List Finding
counted a c [] = []
counted a c (f ∷ fs) =
    if is_at a c f then record f { count = one_more f.count } ∷ fs else f ∷ counted a c fs

abbrev pub first_one : Access → Cell → Finding
first_one a c = record { access = a; cell = c; count = 1 }

-- a place gets a row as long as there is one left
abbrev pub with_row : Access → Cell → Found → Found
with_row a c f =
    if nat_lt (length f.rows) FINDINGS then record f { rows = f.rows ++ first_one a c ∷ [] }
    else record f { others = one_more f.others }

abbrev pub noted : Access → Cell → Found → Found
noted a c f =
    if list_any (is_at a c) f.rows then record f { rows = counted a c f.rows }
    else with_row a c f

-- THE SHADOW, the errors, whether all is known since the program's begin, whether anything was told of memory that is no block's, and
-- whether the program has ended

pub record Heap : Type 0 where
  pub cells : List Cell
  pub found : Found
  pub is_whole : Bool
  pub is_told : Bool
  pub has_ended : Bool

abbrev pub with_error : Access → Cell → Heap → Heap
with_error a c h = record h { found = noted a c h.found }

-- a load or a store; a word outside the memory has nothing told of it
abbrev pub used_as : Access → Option Cell → Heap → Heap
used_as a None h = h
used_as a (Some c) h = with_error a c h

abbrev pub used : Access → Heap → Heap
used a h = used_as a (wrong a (slice_get h.cells (a.address / 4))) h

-- WORDS that have the same told of them: so many from the first one on, as far as the memory has them

abbrev pub few : Part → List Cell → ℕ
few p cells = min p.count (length cells - p.first)

abbrev pub filled : (n first : ℕ) → Cell → List Cell → List Cell
filled zero first c cells = cells
filled (suc n) first c cells = slice_set (filled n first c cells) (first + n) c

-- A BLOCK IS GIVEN
abbrev pub given : Block → Heap → Heap
given b h = record h {
  cells = filled (few (part_of b) h.cells) b.first (cell.Given b) h.cells;
}

-- MEMORY IS NOBODY'S any more: what was a block's has ended, and what nothing was told of is no block's

abbrev pub left_by : Moment → Cell → Cell
left_by m cell.Unknown = cell.Unowned
left_by m (cell.Given b) = cell.Ended b m
left_by m c = c

-- what is told of a word by a change
abbrev pub changed_by : Change → Cell → Cell
changed_by (change.Told d) c = d
changed_by (change.Left m) c = left_by m c

abbrev pub left_at : (i : ℕ) → Moment → List Cell → List Cell
left_at i m cells = slice_set cells i (left_by m (get_or cells i cell.Unknown))

abbrev pub disowned : (n first : ℕ) → Moment → List Cell → List Cell
disowned zero first m cells = cells
disowned (suc n) first m cells = left_at (first + n) m (disowned n first m cells)

abbrev pub disowned_in : Part → Moment → Heap → Heap
disowned_in p m h = record h {
  cells = disowned (few p h.cells) p.first m h.cells;
  is_told = true;
}

-- A BLOCK IS GIVEN BACK, by the address of its first byte. The word before that tells of which block it is

abbrev pub head_of : Access → ℕ
head_of a = a.address / 4 - 1

abbrev pub is_begin : Access → Block → Bool
is_begin a b = a.address == begin_of b

abbrev pub given_back : Moment → Block → Heap → Heap
given_back m b h = record h {
  cells = filled (few (part_of b) h.cells) b.first (cell.GivenBack b m) h.cells;
}

-- an error, where such are told. Where nothing was told of a word, that is one if all is known
abbrev pub if_told : Bool → Access → Cell → Heap → Heap
if_told t a c h = if t then with_error a c h else h

abbrev pub freed_as : (is_told : Bool) → Access → Cell → Heap → Heap
freed_as t a cell.Unknown h = if_told (t && h.is_whole) a cell.Unknown h
freed_as t a (cell.Given b) h =
    if is_begin a b then given_back a.moment b h else if_told t a (cell.Given b) h
freed_as t a c h = if_told t a c h

abbrev pub freed : (is_told : Bool) → Access → Heap → Heap
freed t a h =
    record (freed_as t a (get_or h.cells (head_of a) cell.Unknown) h) { is_told = true }

-- THE END
abbrev pub ended : (has_ended : Bool) → Heap → Heap
ended e h = record h { has_ended = e }

-- NOTE BY NOTE

abbrev pub behind : Note → Heap → Heap
behind (note.Use a) h = used a h
behind (note.Give b) h = given b h
behind (note.GiveBack a t) h = freed t a h
behind (note.Disown p m) h = disowned_in p m h
behind (note.End e) h = ended e h

abbrev pub behind_all : List Note → Heap → Heap
behind_all [] h = h
behind_all (n ∷ ns) h = behind_all ns (behind n h)

-- nothing was told yet of so many words, from the program's begin on or not
abbrev pub fresh : (is_whole : Bool) → (words : ℕ) → Heap
fresh w words = record {
  cells = replicate words cell.Unknown;
  found = no_findings;
  is_whole = w;
  is_told = false;
  has_ended = false;
}

-- BLOCKS THAT WEREN'T GIVEN BACK, by rising address: each by its first word

abbrev pub left_in : (word : ℕ) → Cell → List Block
left_in i (cell.Given b) = if b.first == i then b ∷ [] else []
left_in i _ = []

abbrev pub left_from : (word : ℕ) → List Cell → List Block
left_from i [] = []
left_from i (c ∷ cs) = left_in i c ++ left_from (i + 1) cs
