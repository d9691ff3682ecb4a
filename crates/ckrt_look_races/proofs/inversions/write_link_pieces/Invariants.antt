use Rattle.std.proofs.Common.{take}
use Rattle.std.specs.List.{flat_map}
use Rattle.std.specs.Io.KnownBytes.{Appends}
use Rattle.ckrt_look_races.specs.Inversions.{link_piece}
use Rattle.ckrt_look_races.proofs.inversions.write_link_pieces.Given as goal

-- so many were written
abbrev pub invariant-loop-link : goal.invariant-loop-link
invariant-loop-link g l = Appends (g.W.Write.contents l.fn.out) (g.W.Write.contents l.out) (flat_map link_piece (take l.link-index l.links))
