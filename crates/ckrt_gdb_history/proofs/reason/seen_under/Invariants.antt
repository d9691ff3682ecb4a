use Rattle.std.proofs.Common.{◌≡◌, ◌+◌, ◌≤◌, ◌++◌, drop, length}
use Rattle.ckrt_gdb_history.specs.Search.{seen_under}
use Rattle.ckrt_gdb_history.specs.Stops.{widths}
use Rattle.ckrt_gdb_history.proofs.reason.seen_under.Given as goal

-- what is seen under the watches before this one, and room for the others
abbrev pub invariant-loop-watch : goal.invariant-loop-watch
invariant-loop-watch l = record {
  so : l.seen.items ++ seen_under (drop l.watch-index l.watches) l.bytes ≡ seen_under l.watches l.bytes;
  room : length l.seen.items + widths (drop l.watch-index l.watches) ≤ 256;
}
