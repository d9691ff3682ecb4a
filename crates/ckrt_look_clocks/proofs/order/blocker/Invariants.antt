use Rattle.std.proofs.Common.{◌≡◌}
use Rattle.ckrt_look_clocks.specs.LockOrders.{blocker}
use Rattle.ckrt_look_clocks.proofs.order.blocker.Given as goal

-- the last so far
abbrev pub invariant-loop-place : goal.invariant-loop-place
invariant-loop-place l = l.blocker ≡ blocker l.place l.taking l.locks
