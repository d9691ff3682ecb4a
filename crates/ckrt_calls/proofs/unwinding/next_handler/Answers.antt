use Rattle.ckrt_calls.proofs.KeptEnds.{well_formed_unwound}
use Rattle.ckrt_calls.proofs.unwinding.next_handler.Goals as goal

pub returns-clause-well_formed : goal.returns-clause-well_formed
returns-clause-well_formed c =
    rw (c.exit_with_last.ensures, c.next_handler.ensures)
    (well_formed_unwound c.args.thread c.args.tables.now (record { live = c.requires.live; free = c.requires.free; running = c.requires.running; well_formed = c.requires.well_formed }))
