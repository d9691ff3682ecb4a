use Rattle.std.proofs.Common.{◌≡◌}
use Rattle.ckrt_hunt_schedules.proofs.shorten.Tries.leave_out.Given as goal

-- the hunt is as it was
abbrev pub invariant-loop-done : goal.invariant-loop-done
invariant-loop-done l = l.hunt ≡ l.fn.hunt
