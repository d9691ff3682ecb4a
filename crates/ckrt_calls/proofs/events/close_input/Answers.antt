use Rattle.ckrt_calls.proofs.Readers.{well_formed_closed}
use Rattle.ckrt_calls.proofs.events.close_input.Goals as goal

pub returns-clause-well_formed : goal.returns-clause-well_formed
returns-clause-well_formed c = rw c.wake_all.ensures.woken (well_formed_closed c.args.tables.now c.requires.well_formed)
