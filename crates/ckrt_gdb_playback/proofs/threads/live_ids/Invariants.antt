use Rattle.std.proofs.Common.{◌≡◌, ◌≤◌, ◌+◌, ◌++◌, length}
use Rattle.ckrt_gdb_playback.specs.Look.{ids_from}
use Rattle.ckrt_gdb_playback.proofs.threads.live_ids.Given as goal

abbrev pub invariant-loop-rest : goal.invariant-loop-rest
invariant-loop-rest l = record {
  so : l.ids.items ++ ids_from l.id l.rest ≡ ids_from 0 l.threads.threads;
  count : l.id + length l.rest ≡ 65;
  few : length l.ids.items ≤ l.id;
}

abbrev pub decreases-loop-rest : goal.decreases-loop-rest
decreases-loop-rest l = length l.rest
