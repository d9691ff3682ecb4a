use Rattle.std.proofs.Common.{◌∙◌, ap}
use Rattle.ckrt_machine.specs.Events.{After}
use Rattle.ckrt_machine.proofs.Fixed.{same_harts}
use Rattle.ckrt_stored.proofs.progress.Progress.apply.Goals as goal

pub invariant_of-self-clause-harts : goal.invariant_of-self-clause-harts
invariant_of-self-clause-harts c =
    ap (λ (a : After). a.state.tables.threads.hart_count) c.step-answer.ensures.step ∙ same_harts c.args.event.now c.args.self.now.machine.state ∙ c.args.self.now.harts
