use Rattle.std.proofs.Common.{take}
use Rattle.std.specs.List.{flat_map}
use Rattle.std.specs.Io.KnownBytes.{Appends}
use Rattle.ckrt_look_calls.specs.Replays.{IsBehind, replay_of}
use Rattle.ckrt_look_races.specs.Inversions.{inversion_text}
use Rattle.ckrt_look_races.proofs.cycles_again.write_inversions.Given as goal

-- the lines so far were written
abbrev pub invariant-loop-inversion : goal.invariant-loop-inversion
invariant-loop-inversion g l = record {
  behind : IsBehind (replay_of l.source) l.cursor;
  written : Appends (g.W.Write.contents l.fn.out) (g.W.Write.contents l.out) (flat_map (inversion_text (replay_of l.source)) (take l.inversion-index l.inversions));
}
