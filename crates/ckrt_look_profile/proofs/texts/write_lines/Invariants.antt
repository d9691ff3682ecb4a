use Rattle.std.proofs.Common.{take}
use Rattle.std.specs.List.{flat_map}
use Rattle.std.specs.Io.KnownBytes.{Appends}
use Rattle.ckrt_look_profile.specs.Texts.{share_line}
use Rattle.ckrt_look_profile.proofs.texts.write_lines.Given as goal

-- the lines so far were written
abbrev pub invariant-loop-share : goal.invariant-loop-share
invariant-loop-share g l = Appends (g.W.Write.contents l.fn.out) (g.W.Write.contents l.out) (flat_map (share_line l.all) (take l.share-index l.shares))
