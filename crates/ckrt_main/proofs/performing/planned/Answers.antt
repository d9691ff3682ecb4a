use Rattle.std.proofs.Common.{◌≤◌, sym, subst}
use Rattle.std.specs.Prelude.{IfSome}
use Rattle.ckrt_machine.proofs.RangeLemmas.{planned_in_range}
use Rattle.ckrt_main.proofs.performing.planned.Goals as goal

pub returns-clause-planned : goal.returns-clause-planned
returns-clause-planned g c = rw c.machine.ensures at c.planned.ensures

pub returns-clause-in_range : goal.returns-clause-in_range
returns-clause-in_range g c =
    subst (λ o. IfSome o (λ t. (1 ≤ t) × (t ≤ 64))) (sym c.planned.ensures) (planned_in_range c.args.hart c.machine.result.now.state.tables)
