use Rattle.std.proofs.Common.{◌≡◌, drop}
use Rattle.ckrt_gdb_playback.specs.Standing.{hart_from}
use Rattle.ckrt_gdb_playback.proofs.standing.hart_of.Given as goal

abbrev pub invariant-loop-hart : goal.invariant-loop-hart
invariant-loop-hart l = hart_from l.hart l.thread (drop l.hart l.threads.harts) ≡ hart_from 0 l.thread l.threads.harts
