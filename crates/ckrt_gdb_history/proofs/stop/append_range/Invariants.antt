use Rattle.std.proofs.Common.{◌≡◌, ◌-◌, ◌≤◌, ◌++◌}
use Rattle.ckrt_gdb_history.specs.Stops.{bytes_from, width}
use Rattle.ckrt_gdb_history.proofs.stop.append_range.Given as goal

-- the bytes at the addresses before this one
abbrev pub invariant-loop-address : goal.invariant-loop-address
invariant-loop-address l = record {
  so : l.bytes.items ≡ l.fn.bytes.items ++ bytes_from (l.address - l.watch.first) l.watch.first l.memory.bytes;
  within : l.address - l.watch.first ≤ width l.watch;
}
