use Rattle.std.proofs.Common.{◌≡◌, ◌<◌, ◌∙◌, ◌+◌, ◌-◌, ◌%◌, min, List, length, ap, arith}
use Rattle.ckrt_look_heap.specs.declared.block.Cell.{Cell}
use Rattle.ckrt_look_heap.specs.Parts.{altered}
use Rattle.ckrt_look_heap.proofs.CellLemmas.{altered_both, altered_size}
use Rattle.ckrt_look_heap.proofs.SplitLemmas.{piece_ends, piece_few}
use Rattle.ckrt_look_heap.proofs.parts.Parts.change_parts.Goals as goal

pub overflow_add-from : goal.overflow_add-from
overflow_add-from c = omega (arith, c.requires.fits, c.parts-test.true)

-- one piece more
pub parts-preserved : goal.parts-preserved
parts-preserved c =
    let so_far = c.parts.invariant in let first = c.args.first in let count = c.args.count in let ch = c.args.change.now in
    let i = c.parts.done in let n = c.min-few.result in
    let is : n ≡ min (1024 - (first + i) % 1024) (count - i) = c.min-few.ensures in
    let less : i < count = c.parts-test.true in
    record {
      few = piece_few first count i n is less;
      at = piece_ends first count i n is less;
      cells = c.change_part.ensures.cells ∙ ap (λ (l : List Cell). altered n (first + i) ch l) so_far.cells ∙ altered_both i n first ch c.args.self.now.cells;
      size = ap length c.change_part.ensures.cells ∙ altered_size n (first + i) ch c.parts.self.cells ∙ so_far.size;
      room = c.change_part.ensures.room ∙ so_far.room;
    }
