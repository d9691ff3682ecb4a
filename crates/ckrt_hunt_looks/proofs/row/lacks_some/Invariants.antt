use Rattle.std.proofs.Common.{◌≡◌, false, take}
use Rattle.std.specs.List.{list_any}
use Rattle.ckrt_hunt_looks.specs.Rows.{lacks_row}
use Rattle.ckrt_hunt_looks.proofs.row.lacks_some.Given as goal

-- each before has a row
abbrev pub invariant-loop-found : goal.invariant-loop-found
invariant-loop-found g l = list_any (lacks_row g.F.Notable.kind l.rows) (take l.found-index l.all) ≡ false
