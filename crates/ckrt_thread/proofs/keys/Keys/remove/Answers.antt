use Rattle.ckrt_thread.proofs.KeyLemmas.{proper_removed}
use Rattle.ckrt_thread.proofs.keys.Keys.remove.Goals as goal

pub invariant_of-self : goal.invariant_of-self
invariant_of-self c = proper_removed (record { is_on = c.self.inside.is_on; destructors = c.self.inside.destructors }) c.args.key c.self.invariant
