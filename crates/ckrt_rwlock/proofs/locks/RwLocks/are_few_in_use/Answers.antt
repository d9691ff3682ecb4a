use Rattle.std.proofs.Common.{arith}
use Rattle.ckrt_rwlock.proofs.locks.RwLocks.are_few_in_use.Goals as goal

pub are_limit_in_use-requires-clause-rising : goal.are_limit_in_use-requires-clause-rising
are_limit_in_use-requires-clause-rising c = rw c.rows.ensures c.known.ensures.table.rising

pub are_limit_in_use-requires-clause-size : goal.are_limit_in_use-requires-clause-size
are_limit_in_use-requires-clause-size c = rw c.rows.ensures (omega (arith, c.known.ensures.size))
