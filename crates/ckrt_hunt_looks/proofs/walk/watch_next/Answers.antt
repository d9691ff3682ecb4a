use Rattle.std.proofs.Common.{◌≡◌, ◌≤◌, ◌∙◌, None, ap, subst, sym, arith}
use Rattle.ckrt_machine.specs.Events.{After, refusal_of, step}
use Rattle.ckrt_machine.specs.Steps.{State}
use Rattle.ckrt_machine.proofs.Fixed.{same_harts}
use Rattle.ckrt_calls.specs.declared.table.Tables.{Tables}
use Rattle.ckrt_hunt_schedules.specs.declared.made.Made.{Made}
use Rattle.ckrt_hunt_schedules.specs.Plans.{steps_made}
use Rattle.ckrt_hunt_schedules.specs.Turns.{runner_of}
use Rattle.ckrt_hunt_schedules.proofs.TurnLemmas.{ran_within}
use Rattle.ckrt_hunt_looks.proofs.WalkLemmas.{seen_on, turns_within}
use Rattle.ckrt_hunt_looks.proofs.walk.watch_next.Goals as goal

pub watch-requires : goal.watch-requires
watch-requires g c = record {
  in_range = c.requires.fit.in_range;
  accepted = subst (λ (s : State). refusal_of 0 c.args.event.now s ≡ None) (sym c.requires.alike.same) c.requires.fit.accepted;
}

pub with-requires : goal.with-requires
with-requires g c =
    let fit = c.requires.fit in
    let answers = ap (λ (a : After). steps_made a.answer) c.step-answer.ensures.step in
    record {
      turns = omega (arith, fit.limit, fit.events, c.requires.alike.turns);
      events = omega (arith, fit.limit, fit.events);
      steps = omega (arith, fit.limit, fit.steps, answers, ran_within c.args.event.now c.args.whole.now.state);
    }

pub returns-clause-seen : goal.returns-clause-seen
returns-clause-seen g c = λ start f h.
    let e = c.args.event.now in
    let m = c.args.made.now in
    let l = c.args.look.now in
    let k = g.L.RunLook.looks in
    let noted = c.watch.ensures.watched
    ∙ ap (λ j. k.noted j e c.args.stepped.now.state l) c.from.ensures
    ∙ ap (λ (s : State). k.noted m.events e s l) c.requires.alike.same in
    seen_on k c.args.plan.now start f m _ c.args.whole.now.state _ e c.runner_of-who.result c.step-answer.result _ l _ (c.runner_of-who.ensures ∙ ap (λ (t : Tables). runner_of e t) c.tables.ensures.tables) c.with.ensures c.step-answer.ensures.step c.requires.scheduled (record { in_range = c.requires.fit.in_range; accepted = c.requires.fit.accepted }) noted h

pub returns-clause-alike : goal.returns-clause-alike
returns-clause-alike g c =
    let e = c.args.event.now in
    let s = c.args.whole.now.state in
    let m = c.args.made.now in
    let harts = ap (λ (a : After). a.state.tables.threads.hart_count) c.step-answer.ensures.step ∙ same_harts e s in
    record {
      same = c.watch.ensures.state ∙ ap (λ (t : State). (step e t).state) c.requires.alike.same ∙ sym (ap (λ (a : After). a.state) c.step-answer.ensures.step);
      turns = subst (λ (n : Made). n.turns ≤ n.events) (sym c.with.ensures) (turns_within c.args.plan.now c.runner_of-who.result c.step-answer.result m c.requires.alike.turns);
      harts = omega (arith, harts, c.requires.alike.harts);
    }

pub returns-clause-whole : goal.returns-clause-whole
returns-clause-whole g c = record {
  harts = ap (λ (a : After). a.state.tables.threads.hart_count) c.step-answer.ensures.step ∙ same_harts c.args.event.now c.args.whole.now.state;
  follows = c.step-answer.ensures.follows;
}

pub returns-clause-stepped : goal.returns-clause-stepped
returns-clause-stepped g c = record {
  harts = ap (λ (s : State). s.tables.threads.hart_count) c.watch.ensures.state ∙ same_harts c.args.event.now c.args.stepped.now.state;
  follows = c.watch.ensures.follows;
}
