use Rattle.std.proofs.Common.{◌≡◌}
use Rattle.ckrt_hunt_schedules.proofs.shorten.Tries.search.Given as goal

-- the hunt is as it was
abbrev pub invariant-loop-seed : goal.invariant-loop-seed
invariant-loop-seed l = l.hunt ≡ l.fn.hunt
