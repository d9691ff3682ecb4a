use Rattle.std.proofs.Common.{sym, subst}
use Rattle.ckrt_mutex.specs.WellFormed.{IsWellFormedWith}
use Rattle.ckrt_mutex.proofs.Rows.{well_formed_destroy}
use Rattle.ckrt_mutex.proofs.mutexes.Mutexes.destroy.Goals as goal

pub returns-clause-well_formed : goal.returns-clause-well_formed
returns-clause-well_formed c =
    subst (λ z. IsWellFormedWith z c.forget_idle.new.self) (sym c.forget_idle.ensures.threads)
    (rw c.forget_idle.ensures.mutexes (well_formed_destroy c.args.address c.args.threads.now c.args.self.now c.requires.well_formed))
