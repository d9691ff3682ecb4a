use Rattle.std.proofs.Common.{◌≡◌}
use Rattle.ckrt_look_clocks.specs.LockOrders.{are_alike}
use Rattle.ckrt_look_clocks.proofs.order.are_alike.Given as goal

-- so many places
abbrev pub invariant-loop-place : goal.invariant-loop-place
invariant-loop-place l = l.alike ≡ are_alike l.place l.a l.b
