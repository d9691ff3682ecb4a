use Rattle.std.proofs.Common.{◌≡◌, ◌-◌, ◌≤◌, ◌++◌}
use Rattle.ckrt_gdb_history.specs.Search.{seen_from}
use Rattle.ckrt_gdb_history.specs.Stops.{width}
use Rattle.ckrt_gdb_history.proofs.reason.see_range.Given as goal

-- what is seen at the addresses before this one
abbrev pub invariant-loop-address : goal.invariant-loop-address
invariant-loop-address l = record {
  so : l.seen.items ≡ l.fn.seen.items ++ seen_from (l.address - l.watch.first) l.watch.first l.bytes;
  within : l.address - l.watch.first ≤ width l.watch;
}
