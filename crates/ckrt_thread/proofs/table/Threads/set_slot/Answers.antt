use Rattle.ckrt_thread.proofs.Changes.{well_formed_slot, may_stand_free}
use Rattle.ckrt_thread.proofs.table.Threads.set_slot.Goals as goal

pub invariant_of-self : goal.invariant_of-self
invariant_of-self c =
    rw c.set.ensures
    (well_formed_slot _ c.args.id c.args.slot c.self.invariant c.requires.number.0 c.requires.number.1
    (may_stand_free _ c.args.id c.args.slot (rw (← c.self.view_is) at c.requires.free) (rw (← c.self.view_is) at c.requires.unjoined) (rw (← c.self.view_is) at c.requires.initial) c.requires.proper
    (rw (← c.self.view_is) at c.requires.values)))
