use Rattle.ckrt_thread.proofs.Changes.{well_formed_without}
use Rattle.ckrt_thread.proofs.table.Threads.take_wait.Goals as goal

pub invariant_of-self : goal.invariant_of-self
invariant_of-self c = rw c.take_out.ensures (well_formed_without _ c.args.thread c.self.invariant)
