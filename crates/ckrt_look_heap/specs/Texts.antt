-- What was found, as text (this project's own format): a line an error, which begins as a line of a call does.
use Rattle.std.specs.Prelude.{ℕ, ◌+◌, ◌-◌, ◌==◌, nat_le, min, if◌then◌else◌, List, [], ◌∷◌, ◌++◌, length, take, codes, decimal}
use Rattle.std.specs.List.{flat_map}
use Rattle.ckrt_inspect.specs.Texts.{hex_text}
use Rattle.ckrt_look_calls.specs.Rows.{others_line, stretch_text, times_text}
use Rattle.ckrt_look_heap.specs.declared.block.Access.{Access}
use Rattle.ckrt_look_heap.specs.declared.block.Block.{Block}
use Rattle.ckrt_look_heap.specs.declared.block.Cell.{Cell}
use Rattle.ckrt_look_heap.specs.declared.block.Cell.TheVariants as cell
use Rattle.ckrt_look_heap.specs.declared.block.Deed.{Deed}
use Rattle.ckrt_look_heap.specs.declared.block.Deed.TheVariants as deed
use Rattle.ckrt_look_heap.specs.declared.finding.Finding.{Finding}
use Rattle.ckrt_look_heap.specs.Shadow.{Found, Heap, left_from}

-- ` loads `, ` stores ` or ` frees `
abbrev pub verb : Deed → List ℕ
verb deed.Load = codes " loads "
verb deed.Store = codes " stores "
verb deed.Free = codes " frees "

-- `K+S thread T`
abbrev pub place_text : Access → List ℕ
place_text a =
    decimal a.moment.place.event ++ codes "+" ++ decimal a.moment.place.step ++ codes " thread "
    ++ decimal a.moment.thread

-- ` loads ADDRESS pc PC`
abbrev pub what_text : Access → List ℕ
what_text a = verb a.deed ++ hex_text a.address ++ codes " pc " ++ hex_text a.pc

abbrev pub access_text : Access → List ℕ
access_text a = place_text a ++ what_text a

-- where that is
abbrev pub given_text : Deed → List ℕ
given_text deed.Load = codes " beside a block, "
given_text deed.Store = codes " beside a block, "
given_text deed.Free = codes " inside a block, "

abbrev pub where_text : Deed → Cell → List ℕ
where_text d cell.Unknown = codes " in no block, "
where_text d cell.Unowned = codes " in no block, "
where_text d (cell.Given b) = given_text d
where_text d (cell.GivenBack b m) = codes " in a block that was given back, "
where_text d (cell.Ended b m) = codes " in a stack that has ended, "

-- `K+S thread T loads ADDRESS pc PC in no block, once`
abbrev pub error_text : Finding → List ℕ
error_text f =
    (access_text f.access ++ where_text f.access.deed f.cell) ++ times_text f.count

abbrev pub finding_line : Finding → List ℕ
finding_line f = error_text f ++ codes "\n"

-- where there may be others
abbrev pub elsewhere : (begin : ℕ) → List ℕ
elsewhere k =
    if k == 0 then codes " of this schedule; another one may have some\n"
    else codes " of this schedule; blocks that were taken before these are not known\n"

abbrev pub none_text : (begin end : ℕ) → List ℕ
none_text k l = stretch_text (codes "no errors of memory in events ") k l ++ elsewhere k

-- where nothing was told of memory that is no block's
abbrev pub untold_text : (begin end : ℕ) → List ℕ
untold_text k l =
    stretch_text (codes "events ") k l
    ++ codes " don't tell which memory is no block's: no call of free, or an image of an older kit\n"

-- where each error has a text
abbrev pub rows_text : (Finding → List ℕ) → (begin end : ℕ) → List Finding → ℕ → List ℕ
rows_text each k l [] n = none_text k l
rows_text each k l (f ∷ fs) n = flat_map each (f ∷ fs) ++ others_line n

abbrev pub found_text : (Finding → List ℕ) → (begin end : ℕ) → Found → List ℕ
found_text each k l f = rows_text each k l f.rows f.others

-- BLOCKS THAT WEREN'T GIVEN BACK when the program ended: how many, with how many bytes together, and the first sixteen of them

-- as far as 64 bits count
abbrev pub plus : ℕ → ℕ → ℕ
plus n m = min (n + m) 18446744073709551615

abbrev pub bytes_of : (so_far : ℕ) → List Block → ℕ
bytes_of n [] = n
bytes_of n (b ∷ bs) = bytes_of (plus n b.bytes) bs

abbrev pub sum_text : List Block → List ℕ
sum_text bs =
    (codes "never given back: " ++ decimal (length bs))
    ++ (codes " blocks, bytes: " ++ decimal (bytes_of 0 bs)) ++ codes "\n"

abbrev pub more_text : (count : ℕ) → List ℕ
more_text n =
    if nat_le n 16 then [] else codes "    and " ++ decimal (n - 16) ++ codes " others\n"

abbrev pub counted_text : (Block → List ℕ) → List Block → List ℕ
counted_text each bs = sum_text bs ++ (flat_map each (take 16 bs) ++ more_text (length bs))

abbrev pub blocks_text : (Block → List ℕ) → List Block → List ℕ
blocks_text each bs = if length bs == 0 then [] else counted_text each bs

abbrev pub left_lines : (Block → List ℕ) → Heap → List ℕ
left_lines each h = if h.has_ended then blocks_text each (left_from 0 h.cells) else []

-- ALL that is told
abbrev pub heap_text : (Finding → List ℕ) → (Block → List ℕ) → (begin end : ℕ) → Heap → List ℕ
heap_text each each_left k l h =
    if h.is_told then found_text each k l h.found ++ left_lines each_left h
    else untold_text k l
