use Rattle.std.proofs.Common.{take}
use Rattle.std.specs.List.{flat_map}
use Rattle.std.specs.Io.KnownBytes.{Appends}
use Rattle.ckrt_look_profile.specs.Texts.{row_line}
use Rattle.ckrt_look_profile.proofs.folded.write_rows.Given as goal

-- the lines so far were written
abbrev pub invariant-loop-row : goal.invariant-loop-row
invariant-loop-row g l = Appends (g.W.Write.contents l.fn.out) (g.W.Write.contents l.out) (flat_map (row_line l.fn.rows) (take l.row-index l.rows))
