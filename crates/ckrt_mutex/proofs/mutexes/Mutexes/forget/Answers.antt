use Rattle.std.proofs.Common.{ap, ◌∙◌}
use Rattle.ckrt_mutex.specs.Mutex.{kept}
use Rattle.ckrt_mutex.proofs.Kept.{entries_removed, removed_kept}
use Rattle.ckrt_mutex.proofs.mutexes.Mutexes.forget.Goals as goal

pub invariant_of-self : goal.invariant_of-self
invariant_of-self c = rw c.remove.ensures (entries_removed c.args.address _ c.self.invariant)

pub returns : goal.returns
returns c = rw (← c.self.view_is) (ap kept c.remove.ensures ∙ removed_kept c.args.address _ c.self.invariant.rising)
