use Rattle.ckrt_thread.proofs.Changes.{well_formed_pushed}
use Rattle.ckrt_thread.proofs.table.Threads.push_handler.Goals as goal

pub invariant_of-self : goal.invariant_of-self
invariant_of-self c =
    rw c.push_handler.ensures (well_formed_pushed _ c.args.thread c.args.handler c.self.invariant (rw (← c.self.view_is) at c.requires.live) c.requires.aligned (rw (← c.self.view_is) at c.requires.room))
