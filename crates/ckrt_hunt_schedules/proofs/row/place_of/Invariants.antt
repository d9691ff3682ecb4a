use Rattle.ckrt_hunt_schedules.specs.Tallies.{HasNone}
use Rattle.ckrt_hunt_schedules.proofs.row.place_of.Given as goal

-- none of the rows before it has the outcome
abbrev pub invariant-loop-place : goal.invariant-loop-place
invariant-loop-place l = HasNone l.told l.rows l.place
