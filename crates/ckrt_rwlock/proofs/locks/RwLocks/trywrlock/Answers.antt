use Rattle.std.proofs.Common.{sym, subst}
use Rattle.ckrt_rwlock.specs.WellFormed.{IsWellFormedWith}
use Rattle.ckrt_rwlock.proofs.Rows.{well_formed_trywrlock}
use Rattle.ckrt_rwlock.proofs.locks.RwLocks.trywrlock.Goals as goal

pub returns-clause-well_formed : goal.returns-clause-well_formed
returns-clause-well_formed c =
    subst (λ z. IsWellFormedWith z c.write_or_refuse.new.self) (sym c.write_or_refuse.ensures.threads)
    (rw c.write_or_refuse.ensures.locks (well_formed_trywrlock c.args.thread c.args.address c.args.threads.now c.args.self.now c.requires.well_formed c.known_live.ensures c.requires.free))
