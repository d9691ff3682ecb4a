use Rattle.std.proofs.Common.{◌≡◌, ◌≤◌, ◌+◌, ◌++◌, length}
use Rattle.ckrt_gdb_playback.specs.Look.{listed_from}
use Rattle.ckrt_gdb_playback.proofs.threads.listed_ids.Given as goal

abbrev pub invariant-loop-rest : goal.invariant-loop-rest
invariant-loop-rest l = record {
  so : l.ids.items ++ listed_from l.known l.id l.rest ≡ listed_from l.known 0 l.threads.threads;
  count : l.id + length l.rest ≡ 65;
  few : length l.ids.items ≤ l.id;
}

abbrev pub decreases-loop-rest : goal.decreases-loop-rest
decreases-loop-rest l = length l.rest
