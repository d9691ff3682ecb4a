use Rattle.std.proofs.Common.{◌≡◌, drop}
use Rattle.ckrt_look_calls.proofs.AppendLemmas.{Completes}
use Rattle.ckrt_look_profile.specs.Callgrind.{rows_text}
use Rattle.ckrt_look_profile.proofs.callgrind.write_rows.Given as goal

-- with the text of the rows ahead, all is written
abbrev pub invariant-loop-row : goal.invariant-loop-row
invariant-loop-row g l = record {
  place : l.place ≡ l.row-index;
  text : Completes (g.W.Write.contents l.fn.out) (g.W.Write.contents l.out) (rows_text l.rows l.place (drop l.row-index l.rows)) (rows_text l.fn.rows 0 l.fn.rows);
}
