use Rattle.std.proofs.Common.{◌≤◌}
use Rattle.ckrt_gdb_history.proofs.pool.count_free.Given as goal

abbrev pub invariant-loop-slot : goal.invariant-loop-slot
invariant-loop-slot l = l.count ≤ l.slot
