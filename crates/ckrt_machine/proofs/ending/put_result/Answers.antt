use Rattle.ckrt_thread.specs.Abi.{A0}
use Rattle.ckrt_thread.specs.State.{with_word}
use Rattle.ckrt_calls.proofs.Kept.{well_formed_change}
use Rattle.ckrt_machine.proofs.ending.put_result.Goals as goal

pub returns-clause-well_formed : goal.returns-clause-well_formed
returns-clause-well_formed c =
    rw c.set_result.ensures (well_formed_change (with_word A0 c.args.value) c.args.thread c.args.tables.now c.requires.well_formed (rw c.set_result.ensures at c.known.ensures))
