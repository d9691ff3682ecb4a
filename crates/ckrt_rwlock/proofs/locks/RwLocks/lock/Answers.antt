use Rattle.ckrt_rwlock.proofs.Table.{proper_at, exclusive_at}
use Rattle.ckrt_rwlock.proofs.locks.RwLocks.lock.Goals as goal

pub returns-clause-proper : goal.returns-clause-proper
returns-clause-proper c =
    rw (c.unwrap_or.ensures, c.get.ensures, c.as_slice.ensures.value, c.unheld.ensures) (proper_at c.args.address c.self.inside.table.items c.self.invariant)

pub returns-clause-exclusive : goal.returns-clause-exclusive
returns-clause-exclusive c =
    rw (c.unwrap_or.ensures, c.get.ensures, c.as_slice.ensures.value, c.unheld.ensures) (exclusive_at c.args.address c.self.inside.table.items c.self.invariant)
