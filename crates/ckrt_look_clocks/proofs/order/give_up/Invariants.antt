use Rattle.std.proofs.Common.{◌≡◌}
use Rattle.ckrt_look_clocks.specs.LockOrders.{without}
use Rattle.ckrt_look_clocks.proofs.order.give_up.Given as goal

-- so many places
abbrev pub invariant-loop-place : goal.invariant-loop-place
invariant-loop-place l = l.locks ≡ without l.place l.lock l.fn.locks
