use Rattle.ckrt_calls.proofs.Readers.{well_formed_input}
use Rattle.ckrt_calls.proofs.events.take_input.Goals as goal

pub returns-clause-well_formed : goal.returns-clause-well_formed
returns-clause-well_formed c =
    rw (c.feed_readers.ensures.threads, c.feed_readers.ensures.input, c.append.ensures) (well_formed_input c.args.bytes.now c.args.tables.now c.requires.room c.requires.well_formed)
