use Rattle.std.proofs.Common.{◌≡◌, ◌≤◌, drop}
use Rattle.std.specs.Prelude.{vec_capacity}
use Rattle.ckrt_hunt_looks.specs.Rows.{with_all}
use Rattle.ckrt_hunt_looks.specs.declared.row.TheConstants.{FOUND_ROWS}
use Rattle.ckrt_hunt_looks.proofs.row.note_all.Given as goal

-- with the pairs ahead, all are noted
abbrev pub invariant-loop-found : goal.invariant-loop-found
invariant-loop-found g l = record {
  rows : with_all g.F.Notable.kind l.seed (drop l.found-index l.all) l.rows.items ≡ with_all g.F.Notable.kind l.seed l.all l.fn.rows.items;
  room : FOUND_ROWS ≤ vec_capacity l.rows;
}
