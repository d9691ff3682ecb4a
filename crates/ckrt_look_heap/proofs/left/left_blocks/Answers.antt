use Rattle.std.proofs.Common.{◌<◌, ◌++◌, ◌∙◌, length, ap, rules}
use Rattle.ckrt_look_heap.specs.declared.block.Cell.{Cell}
use Rattle.ckrt_look_heap.specs.declared.block.Cell.TheVariants as cell
use Rattle.ckrt_look_heap.specs.Shadow.{left_in}
use Rattle.ckrt_look_heap.proofs.LeftLemmas.{left_next}
use Rattle.ckrt_look_heap.proofs.left.left_blocks.Goals as goal

-- one word more
pub loop-word-preserved : goal.loop-word-preserved
loop-word-preserved c =
    let cells = c.args.shadow.now.heap.cells in let bs = c.loop-word.blocks.items in let i = c.loop-word.word in
    let less : i < length cells = search rules in
    left_next cells i cell.Unknown bs c.append.new.blocks.items less c.loop-word.invariant (c.in_ok-append.ensures ∙ ap (λ (x : Cell). bs ++ left_in i x) c.told_of.ensures)
