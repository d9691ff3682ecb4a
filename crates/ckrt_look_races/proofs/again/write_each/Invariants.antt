use Rattle.std.proofs.Common.{take}
use Rattle.std.specs.List.{flat_map}
use Rattle.std.specs.Io.KnownBytes.{Appends}
use Rattle.ckrt_look_calls.specs.Replays.{replay_of}
use Rattle.ckrt_look_races.specs.Again.{AreBehind, race_text}
use Rattle.ckrt_look_races.proofs.again.write_each.Given as goal

-- the lines so far were written
abbrev pub invariant-loop-pair : goal.invariant-loop-pair
invariant-loop-pair g l = record {
  behind : AreBehind (replay_of l.source) l.cursors;
  written : Appends (g.W.Write.contents l.fn.out) (g.W.Write.contents l.out) (flat_map (race_text (replay_of l.source)) (take l.pair-index l.pairs));
}
