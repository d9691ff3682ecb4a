use Rattle.std.proofs.Common.{take}
use Rattle.std.specs.List.{flat_map}
use Rattle.std.specs.Io.KnownBytes.{Appends}
use Rattle.ckrt_look_races.specs.Moments.{mutex_line}
use Rattle.ckrt_look_races.proofs.held.write_mutexes.Given as goal

-- the lines so far were written
abbrev pub invariant-loop-entry : goal.invariant-loop-entry
invariant-loop-entry g l = Appends (g.W.Write.contents l.fn.out) (g.W.Write.contents l.out) (flat_map (mutex_line l.moment) (take l.entry-index l.entries))
