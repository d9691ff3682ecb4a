use Rattle.std.proofs.Common.{take}
use Rattle.std.specs.List.{flat_map}
use Rattle.std.specs.Io.KnownBytes.{Appends}
use Rattle.ckrt_look_calls.specs.Replays.{IsBehind, replay_of}
use Rattle.ckrt_look_races.specs.Inversions.{link_lines}
use Rattle.ckrt_look_races.proofs.cycles_again.write_links.Given as goal

-- the lines so far were written
abbrev pub invariant-loop-link : goal.invariant-loop-link
invariant-loop-link g l = record {
  behind : IsBehind (replay_of l.source) l.cursor;
  written : Appends (g.W.Write.contents l.fn.out) (g.W.Write.contents l.out) (flat_map (link_lines (replay_of l.source)) (take l.link-index l.links));
}
