use Rattle.std.proofs.Common.{◌≡◌, drop}
use Rattle.ckrt_thread.specs.Deadlines.{earliest_due}
use Rattle.ckrt_thread.proofs.deadlines.earliest_due.Given as goal

-- the waits from the place on have been looked at
abbrev pub invariant-loop-place : goal.invariant-loop-place
invariant-loop-place l = l.earliest ≡ earliest_due l.now (drop l.place l.waits)
