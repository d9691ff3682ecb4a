use Rattle.std.specs.Io.KnownBytes.{Appends}
use Rattle.ckrt_hunt_looks.specs.FoundTable.{rows_text}
use Rattle.ckrt_hunt_looks.proofs.table.write_rows.Given as goal

-- the rows before it are told
abbrev pub invariant-loop-place : goal.invariant-loop-place
invariant-loop-place g l = Appends (g.W.Write.contents l.fn.out) (g.W.Write.contents l.out) (rows_text g.F.Notable.kind l.asked l.rows l.place)
