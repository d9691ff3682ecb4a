use Rattle.std.proofs.Common.{take}
use Rattle.std.specs.List.{flat_map}
use Rattle.std.specs.Io.KnownBytes.{Appends}
use Rattle.ckrt_look_calls.specs.Lines.{over_line}
use Rattle.ckrt_look_calls.proofs.lines.write_overs.Given as goal

abbrev pub invariant-loop-waiting : goal.invariant-loop-waiting
invariant-loop-waiting g l = Appends (g.W.Write.contents l.fn.out) (g.W.Write.contents l.out) (flat_map (over_line l.place l.after) (take l.waiting-index l.before))
