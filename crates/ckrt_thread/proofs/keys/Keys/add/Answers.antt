use Rattle.ckrt_thread.proofs.KeyLemmas.{proper_added}
use Rattle.ckrt_thread.proofs.keys.Keys.add.Goals as goal

pub invariant_of-self : goal.invariant_of-self
invariant_of-self c = proper_added _ c.args.key c.args.destructor c.self.invariant (rw (← c.self.view_is) at c.requires.on) c.requires.aligned
