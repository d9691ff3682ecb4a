use Rattle.std.proofs.Common.{◌≡◌, ◌+◌, ◌*◌, ◌≤◌, drop}
use Rattle.ckrt_gdb_history.specs.Stops.{widths}
use Rattle.ckrt_gdb_history.proofs.stop.Stops.width.Given as goal

abbrev pub invariant-loop-watch : goal.invariant-loop-watch
invariant-loop-watch l = record {
  so : l.sum + widths (drop l.watch-index l.watch-items) ≡ widths l.watch-items;
  few : l.sum ≤ 4294967296 * l.watch-index;
}
