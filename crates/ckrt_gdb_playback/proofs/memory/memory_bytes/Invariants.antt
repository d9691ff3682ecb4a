use Rattle.std.proofs.Common.{◌≡◌, ◌+◌, ◌≤◌, ◌++◌, length}
use Rattle.ckrt_gdb_playback.specs.Look.{bytes_there, memory_count}
use Rattle.ckrt_gdb_playback.proofs.memory.memory_bytes.Given as goal

-- the bytes that are told, and those from here on
abbrev pub invariant-loop-left : goal.invariant-loop-left
invariant-loop-left l = record {
  so : l.out.items ++ bytes_there l.left l.at l.memory.bytes ≡ bytes_there (memory_count l.count) l.address l.memory.bytes;
  room : length l.out.items + l.left ≤ 2048;
  place : l.at + l.left ≤ 4294971392;
}

abbrev pub decreases-loop-left : goal.decreases-loop-left
decreases-loop-left l = l.left
