use Rattle.ckrt_thread.proofs.KeysKept.{has_turn, well_formed_destroyed}
use Rattle.ckrt_thread.proofs.table.Threads.destroy.Goals as goal

pub invariant_of-self : goal.invariant_of-self
invariant_of-self c =
    rw c.destroy.ensures (well_formed_destroyed _ c.args.thread c.args.turn c.self.invariant (rw (← c.self.view_is) at c.requires.live) (rw (← c.self.view_is) at c.requires.turn))

pub destroy-requires-clause-key : goal.destroy-requires-clause-key
destroy-requires-clause-key c = (has_turn _ c.args.thread c.args.turn c.self.invariant (rw (← c.self.view_is) at c.requires.turn)).1.key
