use Rattle.ckrt_calls.proofs.Ticks.{well_formed_clock}
use Rattle.ckrt_calls.proofs.events.tick.Goals as goal

pub returns-clause-well_formed : goal.returns-clause-well_formed
returns-clause-well_formed c = well_formed_clock _ c.end_due_waits-ended.new.tables c.end_due_waits-ended.ensures.well_formed c.requires.clock c.end_due_waits-ended.ensures.ahead
