use Rattle.ckrt_mutex.proofs.Rows.{well_formed_retake}
use Rattle.ckrt_mutex.proofs.mutexes.Mutexes.retake.Goals as goal

pub returns-clause-well_formed : goal.returns-clause-well_formed
returns-clause-well_formed c =
    rw (c.take_again.ensures.threads, c.take_again.ensures.mutexes)
    (well_formed_retake c.args.thread c.args.address c.args.outcome c.args.threads.now c.args.self.now c.requires.well_formed c.known_live.ensures c.requires.free c.requires.room c.requires.count)
