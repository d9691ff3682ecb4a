use Rattle.std.proofs.Common.{sym, ◌∙◌}
use Rattle.ckrt_rwlock.proofs.Table.{table_stored, table_removed}
use Rattle.ckrt_rwlock.proofs.locks.RwLocks.put.Goals as goal

pub invariant_of-self : goal.invariant_of-self
invariant_of-self c = rw c.store.ensures (table_stored c.args.address c.args.lock _ (sym c.is_held.ensures ∙ c.if-is_held.true) c.requires.proper c.requires.exclusive c.self.invariant)

pub invariant_of-self-else-is_held : goal.invariant_of-self-else-is_held
invariant_of-self-else-is_held c = rw c.remove.ensures (table_removed c.args.address _ c.self.invariant)
