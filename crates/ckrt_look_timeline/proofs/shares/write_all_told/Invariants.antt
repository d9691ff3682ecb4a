use Rattle.std.proofs.Common.{take}
use Rattle.std.specs.List.{flat_map}
use Rattle.std.specs.Io.KnownBytes.{Appends}
use Rattle.ckrt_look_timeline.specs.Shares.{told_of}
use Rattle.ckrt_look_timeline.proofs.shares.write_all_told.Given as goal

abbrev pub invariant-loop-share : goal.invariant-loop-share
invariant-loop-share g l = Appends (g.W.Write.contents l.fn.out) (g.W.Write.contents l.out) (flat_map told_of (take l.share-index l.shares))
