-- The second look at an error: what is told of who made it, and of who took its block and gave it back.
use Rattle.std.specs.Prelude.{ℕ, ◌+◌, ◌*◌, ◌%◌, ◌^◌, List, [], ◌++◌, codes}
use Rattle.ckrt_look_calls.specs.declared.moment.Moment.{Moment}
use Rattle.ckrt_look_calls.specs.Moments.{by_text, made_text, taken_line}
use Rattle.ckrt_look_calls.specs.Replays.{IsBehind, Replay}
use Rattle.ckrt_look_heap.specs.declared.again.Cursors.{Cursors}
use Rattle.ckrt_look_heap.specs.declared.block.Block.{Block}
use Rattle.ckrt_look_heap.specs.declared.block.Cell.{Cell}
use Rattle.ckrt_look_heap.specs.declared.block.Cell.TheVariants as cell
use Rattle.ckrt_look_heap.specs.declared.finding.Finding.{Finding}
use Rattle.ckrt_look_heap.specs.Texts.{finding_line}

pub record AreBehind (r : Replay) (c : Cursors) : Type 0 where
  pub made : IsBehind r c.made
  pub taken : IsBehind r c.taken
  pub back : IsBehind r c.back

-- THE BLOCK, without the heap's own word

abbrev pub address_of : Block → ℕ
address_of b = (b.first * 4 % 2 ^ 32 + 4) % 2 ^ 32

-- its line, with who took it
abbrev pub block_line : Block → List ℕ
block_line b = taken_line (address_of b) b.bytes b.taken

-- with the callers of who took it
abbrev pub taken_text : Block → Replay → List ℕ
taken_text b r = block_line b ++ made_text b.taken r

-- `    given back at K+S by thread T`, `    ended at K+S by thread T`, with the callers of who did
abbrev pub back_line : (word : List ℕ) → Moment → List ℕ
back_line word m = by_text word m ++ codes "\n"

abbrev pub back_text : (word : List ℕ) → Moment → Replay → List ℕ
back_text word m r = back_line word m ++ made_text m r

abbrev pub cell_text : Cell → Replay → List ℕ
cell_text cell.Unknown r = []
cell_text cell.Unowned r = []
cell_text (cell.Given b) r = taken_text b r
cell_text (cell.GivenBack b m) r =
    taken_text b r ++ back_text (codes "    given back at ") m r
cell_text (cell.Ended b m) r = taken_text b r ++ back_text (codes "    ended at ") m r

-- AN ERROR, with what is told of it
abbrev pub finding_text : Replay → Finding → List ℕ
finding_text r f =
    finding_line f ++ (made_text f.access.moment r ++ cell_text f.cell r)

-- A BLOCK that wasn't given back
abbrev pub left_text : Replay → Block → List ℕ
left_text r b = taken_text b r
