use Rattle.std.proofs.Common.{◌≡◌, false, take}
use Rattle.std.specs.List.{list_any}
use Rattle.ckrt_hunt_looks.specs.Rows.{has_place}
use Rattle.ckrt_hunt_looks.proofs.row.has_row.Given as goal

-- none before has these places
abbrev pub invariant-loop-row : goal.invariant-loop-row
invariant-loop-row g l = list_any (has_place g.F.Notable.kind l.found) (take l.row-index l.rows) ≡ false
