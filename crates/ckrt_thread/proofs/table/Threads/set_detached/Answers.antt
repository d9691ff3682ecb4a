use Rattle.ckrt_thread.proofs.Changes.{well_formed_detached}
use Rattle.ckrt_thread.proofs.table.Threads.set_detached.Goals as goal

pub invariant_of-self : goal.invariant_of-self
invariant_of-self c =
    rw c.detach.ensures (well_formed_detached _ c.args.thread c.self.invariant (rw (← c.self.view_is) at c.requires.live) (rw (← c.self.view_is) at c.requires.unjoined))
