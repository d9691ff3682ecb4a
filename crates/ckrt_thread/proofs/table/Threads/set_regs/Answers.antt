use Rattle.std.proofs.Common.{arith}
use Rattle.ckrt_thread.specs.State.{with_regs}
use Rattle.ckrt_thread.proofs.Known.{live_index}
use Rattle.ckrt_thread.proofs.Changes.{well_formed_change, changes_regs}
use Rattle.ckrt_thread.proofs.table.Threads.set_regs.Goals as goal

pub set_regs-requires : goal.set_regs-requires
set_regs-requires c =
    let l = live_index _ c.args.thread c.self.invariant (rw (← c.self.view_is) at c.requires.live) in
    omega (arith, c.self.invariant.size)

pub invariant_of-self : goal.invariant_of-self
invariant_of-self c =
    rw c.set_regs.ensures
    (well_formed_change _ (with_regs c.args.regs.now) c.args.thread (changes_regs c.args.regs.now c.requires.aligned) c.self.invariant)
