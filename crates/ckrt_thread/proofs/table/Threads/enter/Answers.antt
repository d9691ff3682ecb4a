use Rattle.ckrt_thread.specs.Cancellation.{entering}
use Rattle.ckrt_thread.proofs.Changes.{well_formed_change, changes_entering}
use Rattle.ckrt_thread.proofs.table.Threads.enter.Goals as goal

pub invariant_of-self : goal.invariant_of-self
invariant_of-self c =
    rw c.enter.ensures (well_formed_change _ (entering c.args.back c.args.handler) c.args.thread (changes_entering c.args.back c.args.handler c.requires.aligned) c.self.invariant)
