use Rattle.std.proofs.Common.{arith}
use Rattle.ckrt_thread.proofs.Changes.{well_formed_word}
use Rattle.ckrt_thread.proofs.table.Threads.set_word.Goals as goal

pub set_word-requires-clause-within : goal.set_word-requires-clause-within
set_word-requires-clause-within c = let n = c.self.invariant.size in omega (arith, c.requires.thread)

pub invariant_of-self : goal.invariant_of-self
invariant_of-self c = rw c.set_word.ensures (well_formed_word _ c.args.thread c.args.register c.args.value c.self.invariant)
