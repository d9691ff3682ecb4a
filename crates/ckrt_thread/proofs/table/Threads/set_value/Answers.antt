use Rattle.ckrt_thread.proofs.KeysKept.{well_formed_value}
use Rattle.ckrt_thread.proofs.table.Threads.set_value.Goals as goal

pub invariant_of-self : goal.invariant_of-self
invariant_of-self c =
    rw c.set_value.ensures (well_formed_value _ c.args.thread c.args.key c.args.value c.self.invariant (rw (← c.self.view_is) at c.requires.live) (rw (← c.self.view_is) at c.requires.key))
