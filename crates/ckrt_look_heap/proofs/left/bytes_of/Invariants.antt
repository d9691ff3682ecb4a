use Rattle.std.proofs.Common.{◌≡◌, drop}
use Rattle.ckrt_look_heap.specs.Texts.{bytes_of}
use Rattle.ckrt_look_heap.proofs.left.bytes_of.Given as goal

-- with those ahead, all have been added
abbrev pub invariant-loop-block : goal.invariant-loop-block
invariant-loop-block l = bytes_of l.sum (drop l.block-index l.blocks) ≡ bytes_of 0 l.blocks
