use Rattle.ckrt_thread.proofs.KeysKept.{well_formed_keys}
use Rattle.ckrt_thread.proofs.table.Threads.put_keys.Goals as goal

pub invariant_of-self : goal.invariant_of-self
invariant_of-self c = well_formed_keys _ c.args.keys c.self.invariant c.known.ensures (rw (← c.self.view_is) at c.requires)
