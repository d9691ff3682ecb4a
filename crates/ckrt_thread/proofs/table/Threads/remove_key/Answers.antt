use Rattle.ckrt_thread.proofs.KeysKept.{well_formed_unkeyed}
use Rattle.ckrt_thread.proofs.table.Threads.remove_key.Goals as goal

pub invariant_of-self : goal.invariant_of-self
invariant_of-self c = rw (c.clear_key.ensures, c.remove.ensures) (well_formed_unkeyed _ c.args.key c.self.invariant)
