use Rattle.std.proofs.Common.{sym, subst}
use Rattle.ckrt_mutex.specs.WellFormed.{IsWellFormedWith}
use Rattle.ckrt_mutex.proofs.Rows.{well_formed_init}
use Rattle.ckrt_mutex.proofs.mutexes.Mutexes.init.Goals as goal

pub returns-clause-well_formed : goal.returns-clause-well_formed
returns-clause-well_formed c =
    subst (λ z. IsWellFormedWith z c.set_kind.new.self) (sym c.set_kind.ensures.threads)
    (rw c.set_kind.ensures.mutexes (well_formed_init c.args.address c.args.kind c.args.threads.now c.args.self.now c.requires.well_formed))
