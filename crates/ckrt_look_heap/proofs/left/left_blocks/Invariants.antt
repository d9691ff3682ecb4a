use Rattle.std.proofs.Common.{◌≡◌, take}
use Rattle.ckrt_look_heap.specs.Shadow.{left_from}
use Rattle.ckrt_look_heap.proofs.left.left_blocks.Given as goal

-- those of the words so far
abbrev pub invariant-loop-word : goal.invariant-loop-word
invariant-loop-word l = l.blocks.items ≡ left_from 0 (take l.word l.shadow.heap.cells)
