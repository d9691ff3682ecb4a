use Rattle.std.proofs.Common.{arith, ap, subst, ◌∙◌, ◌++◌, ℕ, List}
use Rattle.ckrt_machine.specs.Events.{After}
use Rattle.ckrt_calls.specs.declared.table.Tables.{Tables}
use Rattle.ckrt_hunt_schedules.specs.Plans.{steps_made}
use Rattle.ckrt_hunt_schedules.specs.Runs.{Hears}
use Rattle.ckrt_hunt_schedules.specs.Turns.{runner_of}
use Rattle.ckrt_machine.proofs.Fixed.{same_harts}
use Rattle.ckrt_hunt_schedules.proofs.RunLemmas.{gone_on}
use Rattle.ckrt_hunt_schedules.proofs.TurnLemmas.{ran_within}
use Rattle.ckrt_hunt_schedules.proofs.runs.go_on.Goals as goal

pub with-requires : goal.with-requires
with-requires c =
    let fit = c.requires.fit in
    let answers = ap (λ (a : After). steps_made a.answer) c.step-answer.ensures.step in
    record {
      turns = omega (arith, fit.limit, fit.events, c.requires.turns);
      events = omega (arith, fit.limit, fit.events);
      steps = omega (arith, fit.limit, fit.steps, answers, ran_within c.args.event.now c.args.machine.now.state);
    }

pub returns-clause-come : goal.returns-clause-come
returns-clause-come c = λ start h.
    let more = subst (λ (out : List ℕ). (o : List ℕ) → Hears c.args.heard.now o → Hears c.hear.new.self (o ++ out)) c.last_output.ensures.output c.hear.ensures in
    gone_on c.args.plan.now start c.args.made.now _ c.args.machine.now.state _ c.args.event.now c.runner_of-who.result c.step-answer.result _ c.args.heard.now _ (c.runner_of-who.ensures ∙ ap (λ (t : Tables). runner_of c.args.event.now t) c.tables.ensures.tables) c.with.ensures c.step-answer.ensures.step c.requires.scheduled (record { in_range = c.requires.fit.in_range; accepted = c.requires.fit.accepted }) more h

pub returns-clause-harts : goal.returns-clause-harts
returns-clause-harts c = ap (λ (a : After). a.state.tables.threads.hart_count) c.step-answer.ensures.step ∙ same_harts c.args.event.now c.args.machine.now.state
