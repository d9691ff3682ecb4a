use Rattle.std.proofs.Common.{take}
use Rattle.std.specs.List.{flat_map}
use Rattle.std.specs.Io.KnownBytes.{Appends}
use Rattle.ckrt_look_timeline.specs.Parts.{part_text}
use Rattle.ckrt_look_timeline.proofs.part.write_parts.Given as goal

abbrev pub invariant-loop-part : goal.invariant-loop-part
invariant-loop-part g l = Appends (g.W.Write.contents l.fn.out) (g.W.Write.contents l.out) (flat_map part_text (take l.part-index l.parts))
