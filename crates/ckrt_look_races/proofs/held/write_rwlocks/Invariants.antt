use Rattle.std.proofs.Common.{take}
use Rattle.std.specs.List.{flat_map}
use Rattle.std.specs.Io.KnownBytes.{Appends}
use Rattle.ckrt_look_races.specs.Moments.{rwlock_line}
use Rattle.ckrt_look_races.proofs.held.write_rwlocks.Given as goal

-- the lines so far were written
abbrev pub invariant-loop-entry : goal.invariant-loop-entry
invariant-loop-entry g l = Appends (g.W.Write.contents l.fn.out) (g.W.Write.contents l.out) (flat_map (rwlock_line l.moment) (take l.entry-index l.entries))
