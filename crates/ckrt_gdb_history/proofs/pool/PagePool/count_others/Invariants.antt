use Rattle.std.proofs.Common.{◌<◌}
use Rattle.ckrt_gdb_history.proofs.pool.PagePool.count_others.Given as goal

abbrev pub invariant-loop-page : goal.invariant-loop-page
invariant-loop-page l = l.count < l.page
