use Rattle.ckrt_rwlock.proofs.Rows.{well_formed_rdlock}
use Rattle.ckrt_rwlock.proofs.locks.RwLocks.rdlock.Goals as goal

pub returns-clause-well_formed : goal.returns-clause-well_formed
returns-clause-well_formed c =
    rw (c.read_or_wait.ensures.threads, c.read_or_wait.ensures.locks)
    (well_formed_rdlock c.args.thread c.args.address c.args.threads.now c.args.self.now c.requires.well_formed c.known_live.ensures c.requires.free)
