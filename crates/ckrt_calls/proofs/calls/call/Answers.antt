use Rattle.std.proofs.Common.{sym, subst}
use Rattle.ckrt_calls.specs.WellFormed.{IsWellFormed}
use Rattle.ckrt_calls.proofs.Kept.{well_formed_called}
use Rattle.ckrt_calls.proofs.calls.call.Goals as goal

pub returns-clause-well_formed : goal.returns-clause-well_formed
returns-clause-well_formed c =
    subst IsWellFormed (sym c.dispatch.ensures.tables)
    (well_formed_called c.args.thread c.args.tables.now (record { live = c.requires.live; free = c.requires.free; running = c.requires.running; well_formed = c.requires.well_formed }))
