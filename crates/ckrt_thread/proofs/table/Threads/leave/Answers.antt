use Rattle.ckrt_thread.proofs.Changes.{well_formed_off}
use Rattle.ckrt_thread.proofs.table.Threads.leave.Goals as goal

pub invariant_of-self : goal.invariant_of-self
invariant_of-self c = rw c.take_off.ensures (well_formed_off _ c.args.thread c.self.invariant)
