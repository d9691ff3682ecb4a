use Rattle.ckrt_mutex.proofs.Rows.{well_formed_timedlock}
use Rattle.ckrt_mutex.proofs.mutexes.Mutexes.timedlock.Goals as goal

pub returns-clause-well_formed : goal.returns-clause-well_formed
returns-clause-well_formed c =
    rw (c.take_or_wait_until.ensures.threads, c.take_or_wait_until.ensures.mutexes)
    (well_formed_timedlock c.args.thread c.args.address c.args.moment c.args.clock c.args.threads.now c.args.self.now c.requires.well_formed c.known_live.ensures c.requires.free)
