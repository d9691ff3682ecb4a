use Rattle.std.proofs.Common.{◌≡◌, length, vec_capacity}
use Rattle.ckrt_look_clocks.specs.LockHistories.{orders_without}
use Rattle.ckrt_look_clocks.proofs.holding.forget.Given as goal

-- so many orders
abbrev pub invariant-loop-place : goal.invariant-loop-place
invariant-loop-place l = record {
  orders : l.orders.items ≡ orders_without l.place l.lock l.fn.orders.items;
  count : length l.orders.items ≡ length l.fn.orders.items;
  room : vec_capacity l.orders ≡ vec_capacity l.fn.orders;
}
