use Rattle.ckrt_thread.proofs.Changes.{well_formed_placed}
use Rattle.ckrt_thread.proofs.table.Threads.place.Goals as goal

pub invariant_of-self : goal.invariant_of-self
invariant_of-self c = well_formed_placed _ c.args.hart c.args.thread c.self.invariant (rw (← c.self.view_is) at c.requires.hart) (rw (← c.self.view_is) at c.requires.ready)
