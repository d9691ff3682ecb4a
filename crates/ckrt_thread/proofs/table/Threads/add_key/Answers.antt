use Rattle.ckrt_thread.proofs.KeysKept.{well_formed_key}
use Rattle.ckrt_thread.proofs.table.Threads.add_key.Goals as goal

pub invariant_of-self : goal.invariant_of-self
invariant_of-self c = rw c.add.ensures (well_formed_key _ c.args.key c.args.destructor c.self.invariant (rw (← c.self.view_is) at c.requires.on) c.requires.aligned)
