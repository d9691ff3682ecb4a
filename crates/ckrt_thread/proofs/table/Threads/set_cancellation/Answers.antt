use Rattle.ckrt_thread.proofs.Changes.{well_formed_cancellation}
use Rattle.ckrt_thread.proofs.table.Threads.set_cancellation.Goals as goal

pub invariant_of-self : goal.invariant_of-self
invariant_of-self c =
    rw c.set_cancellation.ensures (well_formed_cancellation _ c.args.thread c.args.cancellation.now c.self.invariant (rw (← c.self.view_is) at c.requires.live) c.requires.consistent (rw (← c.self.view_is) at c.requires.unwinding))
