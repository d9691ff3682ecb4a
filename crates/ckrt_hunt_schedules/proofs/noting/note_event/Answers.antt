use Rattle.std.proofs.Common.{arith, ap, ◌∙◌}
use Rattle.ckrt_machine.specs.Events.{After}
use Rattle.ckrt_machine.proofs.Fixed.{same_harts}
use Rattle.ckrt_hunt_schedules.specs.Plans.{steps_made}
use Rattle.ckrt_hunt_schedules.proofs.TurnLemmas.{ran_within}
use Rattle.ckrt_hunt_schedules.proofs.noting.note_event.Goals as goal

pub with-requires : goal.with-requires
with-requires c =
    let fit = c.requires.fit in
    let answers = ap (λ (a : After). steps_made a.answer) c.step-answer.ensures.step in
    record {
      turns = omega (arith, fit.limit, fit.events, c.requires.turns);
      events = omega (arith, fit.limit, fit.events);
      steps = omega (arith, fit.limit, fit.steps, answers, ran_within c.args.event.now c.args.machine.now.state);
    }

pub returns-in-Some-clause-harts : goal.returns-in-Some-clause-harts
returns-in-Some-clause-harts c = ap (λ (a : After). a.state.tables.threads.hart_count) c.step-answer.ensures.step ∙ same_harts c.args.event.now c.args.machine.now.state

pub returns-in-None-clause-harts : goal.returns-in-None-clause-harts
returns-in-None-clause-harts c = ap (λ (a : After). a.state.tables.threads.hart_count) c.step-answer.ensures.step ∙ same_harts c.args.event.now c.args.machine.now.state
