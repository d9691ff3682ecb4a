use Rattle.ckrt_thread.specs.State.{with_regs}
use Rattle.ckrt_calls.proofs.Kept.{well_formed_change}
use Rattle.ckrt_test_machine.proofs.calls.arm.Goals as goal

pub returns-clause-well_formed : goal.returns-clause-well_formed
returns-clause-well_formed c =
    rw c.set_regs.ensures (well_formed_change (with_regs c.args.regs.now) c.args.thread c.args.tables.now c.requires.well_formed (rw c.set_regs.ensures at c.known.ensures))
