use Rattle.std.proofs.Common.{◌≡◌, drop}
use Rattle.ckrt_schedule.specs.Schedules.{earliest_deadline}
use Rattle.ckrt_schedule.proofs.schedule.earliest_deadline.Given as goal

-- the waits from the place on have been looked at
abbrev pub invariant-loop-place : goal.invariant-loop-place
invariant-loop-place l = l.earliest ≡ earliest_deadline (drop l.place l.waits)
