use Rattle.std.proofs.Common.{◌≡◌}
use Rattle.ckrt_look_clocks.specs.LockOrders.{free_order}
use Rattle.ckrt_look_clocks.proofs.order.free_order.Given as goal

-- the last so far
abbrev pub invariant-loop-place : goal.invariant-loop-place
invariant-loop-place l = l.free ≡ free_order l.place l.orders
