use Rattle.std.proofs.Common.{◌≡◌}
use Rattle.ckrt_hunt_schedules.specs.Shown.{total_of}
use Rattle.ckrt_hunt_schedules.proofs.shown.total_of.Given as goal

-- what the rows before it count
abbrev pub invariant-loop-place : goal.invariant-loop-place
invariant-loop-place l = l.total ≡ total_of l.measure l.rows l.place
