use Rattle.ckrt_rwlock.proofs.Rows.{well_formed_unlock}
use Rattle.ckrt_rwlock.proofs.locks.RwLocks.unlock.Goals as goal

pub returns-clause-well_formed : goal.returns-clause-well_formed
returns-clause-well_formed c =
    rw (c.give_up.ensures.threads, c.give_up.ensures.locks)
    (well_formed_unlock c.args.thread c.args.address c.args.threads.now c.args.self.now c.known.ensures c.requires.well_formed c.known_live.ensures)
