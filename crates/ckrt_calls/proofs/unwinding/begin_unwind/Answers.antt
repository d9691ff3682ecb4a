use Rattle.ckrt_calls.proofs.KeptEnds.{well_formed_begun}
use Rattle.ckrt_calls.proofs.unwinding.begin_unwind.Goals as goal

pub returns-clause-well_formed : goal.returns-clause-well_formed
returns-clause-well_formed c =
    rw (c.exit_with_last.ensures, c.begin_unwind.ensures)
    (well_formed_begun c.args.thread c.args.value c.args.tables.now (record { live = c.requires.live; free = c.requires.free; running = c.requires.running; well_formed = c.requires.well_formed }))
