use Rattle.std.proofs.Common.{sym, subst}
use Rattle.ckrt_barrier.specs.WellFormed.{IsWellFormedWith}
use Rattle.ckrt_barrier.proofs.WellFormed.{well_formed_wait}
use Rattle.ckrt_barrier.proofs.barriers.Barriers.wait.Goals as goal

pub returns-clause-well_formed : goal.returns-clause-well_formed
returns-clause-well_formed c =
    subst (λ bs. IsWellFormedWith c.meet.new.threads bs) (sym c.meet.ensures.barriers)
    (rw c.meet.ensures.threads (well_formed_wait c.args.thread c.args.address c.args.threads.now c.args.self.now c.requires.well_formed))
