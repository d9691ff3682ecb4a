use Rattle.std.proofs.Common.{◌∙◌, ap, arith}
use Rattle.ckrt_calls.specs.declared.table.Tables.{Tables}
use Rattle.ckrt_hunt_schedules.specs.Plans.{steps_made}
use Rattle.ckrt_hunt_schedules.specs.Turns.{runner_of}
use Rattle.ckrt_hunt_schedules.proofs.KeepLemmas.{goes_on_by}
use Rattle.ckrt_hunt_schedules.proofs.TurnLemmas.{ran_within}
use Rattle.ckrt_hunt_schedules.proofs.keeping.keep_event.Goals as goal

pub with-requires : goal.with-requires
with-requires g c =
    let fit = c.requires.fit in
    let answers = ap steps_made c.in_ok-answer.ensures.ok.answered in
    record {
      turns = omega (arith, fit.limit, fit.events, c.requires.turns);
      events = omega (arith, fit.limit, fit.events);
      steps = omega (arith, fit.limit, fit.steps, answers, ran_within c.args.event.now c.args.session.now.progress.machine.state);
    }

pub returns-clause-on : goal.returns-clause-on
returns-clause-on g c =
    let tables = c.tables.ensures.tables ∙ ap (λ m. m.state.tables) c.machine.ensures in
    goes_on_by c.args.plan.now c.args.event.now c.args.session.now c.take.new.session c.args.made.now _ c.runner_of-who.result c.in_ok-answer.answer (c.runner_of-who.ensures ∙ ap (λ (t : Tables). runner_of c.args.event.now t) tables) c.with.ensures c.in_ok-answer.ensures.ok
