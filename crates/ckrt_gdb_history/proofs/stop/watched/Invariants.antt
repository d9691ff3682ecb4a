use Rattle.std.proofs.Common.{◌≡◌, ◌+◌, ◌≤◌, ◌++◌, drop, length}
use Rattle.ckrt_gdb_history.specs.Stops.{watched, widths}
use Rattle.ckrt_gdb_history.proofs.stop.watched.Given as goal

-- the bytes under the watches before this one, and room for those of the others
abbrev pub invariant-loop-watch : goal.invariant-loop-watch
invariant-loop-watch l = record {
  so : l.bytes.items ++ watched (drop l.watch-index l.watches) l.memory.bytes ≡ watched l.watches l.memory.bytes;
  room : length l.bytes.items + widths (drop l.watch-index l.watches) ≤ 256;
}
