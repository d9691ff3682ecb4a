use Rattle.ckrt_thread.specs.Cancellation.{popping}
use Rattle.ckrt_thread.proofs.Changes.{well_formed_change, changes_popping}
use Rattle.ckrt_thread.proofs.table.Threads.drop_newest.Goals as goal

pub invariant_of-self : goal.invariant_of-self
invariant_of-self c =
    rw c.pop_handler.ensures (well_formed_change _ popping c.args.thread changes_popping c.self.invariant)
