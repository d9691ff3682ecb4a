use Rattle.std.proofs.Common.{◌≡◌, false, take}
use Rattle.std.specs.List.{list_any}
use Rattle.ckrt_hunt_looks.specs.Rows.{has_place}
use Rattle.ckrt_hunt_looks.proofs.row.count_again.Given as goal

-- none before has these places, and all are as they were
abbrev pub invariant-loop-place : goal.invariant-loop-place
invariant-loop-place g l =
    (l.rows ≡ l.fn.rows) × (list_any (has_place g.F.Notable.kind l.found) (take l.place l.fn.rows.items) ≡ false)
