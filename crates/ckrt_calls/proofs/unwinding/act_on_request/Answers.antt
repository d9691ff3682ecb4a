use Rattle.ckrt_calls.proofs.KeptEnds.{well_formed_acted}
use Rattle.ckrt_calls.proofs.unwinding.act_on_request.Goals as goal

pub returns-clause-well_formed : goal.returns-clause-well_formed
returns-clause-well_formed c =
    rw (c.exit_with_last.ensures, c.act_on_request.ensures)
    (well_formed_acted c.args.thread c.args.tables.now (record { live = c.requires.live; free = c.requires.free; running = c.requires.running; well_formed = c.requires.well_formed }))
