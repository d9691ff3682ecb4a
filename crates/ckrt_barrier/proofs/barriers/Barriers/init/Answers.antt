use Rattle.std.proofs.Common.{sym, subst}
use Rattle.ckrt_barrier.specs.WellFormed.{IsWellFormedWith}
use Rattle.ckrt_barrier.proofs.WellFormed.{well_formed_init}
use Rattle.ckrt_barrier.proofs.barriers.Barriers.init.Goals as goal

pub returns-clause-well_formed : goal.returns-clause-well_formed
returns-clause-well_formed c =
    subst (λ z. IsWellFormedWith z c.set_count.new.self) (sym c.set_count.ensures.threads)
    (rw c.set_count.ensures.barriers (well_formed_init c.args.address c.args.count c.args.threads.now c.args.self.now c.requires.well_formed))
