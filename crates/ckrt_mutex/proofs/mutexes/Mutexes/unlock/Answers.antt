use Rattle.ckrt_mutex.proofs.Rows.{well_formed_unlock}
use Rattle.ckrt_mutex.proofs.mutexes.Mutexes.unlock.Goals as goal

pub returns-clause-well_formed : goal.returns-clause-well_formed
returns-clause-well_formed c =
    rw (c.give_up.ensures.threads, c.give_up.ensures.mutexes)
    (well_formed_unlock c.args.thread c.args.address c.args.threads.now c.args.self.now c.known.ensures c.requires.well_formed)
