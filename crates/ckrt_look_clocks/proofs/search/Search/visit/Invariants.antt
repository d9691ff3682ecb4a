use Rattle.std.proofs.Common.{◌≡◌, ◌≤◌, vec_capacity}
use Rattle.ckrt_look_clocks.specs.declared.search.TheConstants.{ORDERS}
use Rattle.ckrt_look_clocks.specs.Cycles.{found_of, visited}
use Rattle.ckrt_look_clocks.proofs.search.Search.visit.Given as goal

-- so many orders
abbrev pub invariant-loop-place : goal.invariant-loop-place
invariant-loop-place l = record {
  found : found_of l.self ≡ visited l.place l.orders l.first l.from (found_of l.fn.self);
  room : ORDERS ≤ vec_capacity l.self.paths;
}
