use Rattle.std.proofs.Common.{take}
use Rattle.std.specs.List.{flat_map}
use Rattle.std.specs.Io.KnownBytes.{Appends}
use Rattle.ckrt_look_calls.specs.Replays.{IsBehind, replay_of}
use Rattle.ckrt_look_heap.specs.Again.{left_text}
use Rattle.ckrt_look_heap.proofs.again.write_each_block.Given as goal

-- the lines so far were written
abbrev pub invariant-loop-block : goal.invariant-loop-block
invariant-loop-block g l = record {
  behind : IsBehind (replay_of l.source) l.cursor;
  written : Appends (g.W.Write.contents l.fn.out) (g.W.Write.contents l.out) (flat_map (left_text (replay_of l.source)) (take l.block-index l.blocks));
}
