use Rattle.ckrt_barrier.proofs.Table.{table_removed}
use Rattle.ckrt_barrier.proofs.barriers.Barriers.forget_idle.Goals as goal

pub invariant_of-self : goal.invariant_of-self
invariant_of-self c = rw c.remove.ensures (table_removed c.args.address _ c.self.invariant)
