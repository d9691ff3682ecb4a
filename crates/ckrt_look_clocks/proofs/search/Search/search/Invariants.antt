use Rattle.std.proofs.Common.{◌≡◌, ◌≤◌, vec_capacity}
use Rattle.ckrt_look_clocks.specs.declared.search.TheConstants.{ORDERS}
use Rattle.ckrt_look_clocks.specs.Cycles.{found_of, searched}
use Rattle.ckrt_look_clocks.proofs.search.Search.search.Given as goal

-- behind so many paths
abbrev pub invariant-loop-from : goal.invariant-loop-from
invariant-loop-from l = record {
  found : found_of l.self ≡ searched l.from l.orders l.first;
  room : ORDERS ≤ vec_capacity l.self.paths;
}
