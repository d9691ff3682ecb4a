use Rattle.std.proofs.Common.{take}
use Rattle.std.specs.List.{flat_map}
use Rattle.std.specs.Io.KnownBytes.{Appends}
use Rattle.ckrt_look_calls.specs.Replays.{replay_of}
use Rattle.ckrt_look_heap.specs.Again.{AreBehind, finding_text}
use Rattle.ckrt_look_heap.proofs.again.write_each.Given as goal

-- the lines so far were written
abbrev pub invariant-loop-finding : goal.invariant-loop-finding
invariant-loop-finding g l = record {
  behind : AreBehind (replay_of l.source) l.cursors;
  written : Appends (g.W.Write.contents l.fn.out) (g.W.Write.contents l.out) (flat_map (finding_text (replay_of l.source)) (take l.finding-index l.findings));
}
