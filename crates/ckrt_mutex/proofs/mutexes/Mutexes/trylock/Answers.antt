use Rattle.std.proofs.Common.{sym, subst}
use Rattle.ckrt_mutex.specs.WellFormed.{IsWellFormedWith}
use Rattle.ckrt_mutex.proofs.Rows.{well_formed_trylock}
use Rattle.ckrt_mutex.proofs.mutexes.Mutexes.trylock.Goals as goal

pub returns-clause-well_formed : goal.returns-clause-well_formed
returns-clause-well_formed c =
    subst (λ z. IsWellFormedWith z c.take_or_refuse.new.self) (sym c.take_or_refuse.ensures.threads)
    (rw c.take_or_refuse.ensures.mutexes (well_formed_trylock c.args.thread c.args.address c.args.threads.now c.args.self.now c.requires.well_formed c.known_live.ensures c.requires.free))
