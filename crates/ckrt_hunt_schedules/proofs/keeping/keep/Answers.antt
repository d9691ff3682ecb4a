use Rattle.std.proofs.Common.{rules, ◌≡◌, ◌≤◌, ◌∙◌, Err, ap, arith, sym, subst}
use Rattle.ckrt_schedule.specs.declared.next.Next.TheVariants.{Submit, End}
use Rattle.ckrt_hunt_schedules.specs.Kept.{KeepsRun}
use Rattle.ckrt_hunt_schedules.specs.Turns.{IsFit, next}
use Rattle.ckrt_hunt_schedules.proofs.KeepLemmas.{harts_on, kept_nothing, kept_on, kept_to_end, kept_up_to}
use Rattle.ckrt_hunt_schedules.proofs.keeping.keep.Goals as goal

pub events-init : goal.events-init
events-init g c = record {
  kept = kept_nothing c.args.plan.now c.args.session.now c.nothing-made.result c.nothing-made.ensures;
  turns = grind (arith, c.nothing-made.ensures);
  harts = c.requires;
}

pub next-requires : goal.next-requires
next-requires g c = record { harts = subst (λ m. 1 ≤ m.state.tables.threads.hart_count) (sym c.machine.ensures) c.events.invariant.harts }

pub keep_event-requires : goal.keep_event-requires
keep_event-requires g c = record {
  fit = subst (λ m. IsFit c.args.plan.now c.events.made m.state.tables c.in-Submit.event) c.machine.ensures c.in-Submit.ensures.fit;
  turns = c.events.invariant.turns;
}

pub events-preserved : goal.events-preserved
events-preserved g c =
    let e = c.in-Submit.event in
    let old = c.events.session in
    let new = c.keep_event.new.session in
    let is : next c.args.plan.now c.events.made old.progress.machine.state.tables ≡ Submit e = ap (λ m. next c.args.plan.now c.events.made m.state.tables) (sym c.machine.ensures) ∙ sym c.in-Submit.ensures.next in
    let on_it = c.in_ok-keep_event-in-Submit.ensures.on in
    record {
      kept = kept_on c.args.plan.now e c.args.session.now old new c.events.made c.keep_event.new.made c.events.invariant.kept is on_it;
      turns = c.in_ok-keep_event-in-Submit.ensures.turns;
      harts = subst (λ n. 1 ≤ n) (sym (harts_on c.args.plan.now e old new c.events.made c.keep_event.new.made on_it)) c.events.invariant.harts;
    }

pub events-smaller : goal.events-smaller
events-smaller g c = omega (arith, c.in-Submit.ensures.fit.events, c.in_ok-keep_event-in-Submit.ensures.events)

pub returns-in_err-keep_event-in-Submit : goal.returns-in_err-keep_event-in-Submit
returns-in_err-keep_event-in-Submit g c =
    let e = c.in-Submit.event in
    let old = c.events.session in
    let is : next c.args.plan.now c.events.made old.progress.machine.state.tables ≡ Submit e = ap (λ m. next c.args.plan.now c.events.made m.state.tables) (sym c.machine.ensures) ∙ sym c.in-Submit.ensures.next in
    let why = c.in_err-keep_event-in-Submit.field-0.0 in
    let told : c.from_residual.result ≡ Err why = search rules in
    subst (λ r. KeepsRun c.args.plan.now c.args.session.now c.keep_event.new.session r) (sym told)
    (kept_up_to c.args.plan.now e c.args.session.now old c.keep_event.new.session c.events.made why c.events.invariant.kept is c.in_err-keep_event-in-Submit.ensures.left)

pub returns-in-End : goal.returns-in-End
returns-in-End g c =
    let old = c.events.session in
    let is : next c.args.plan.now c.events.made old.progress.machine.state.tables ≡ End c.in-End.ending = ap (λ m. next c.args.plan.now c.events.made m.state.tables) (sym c.machine.ensures) ∙ sym c.in-End.ensures.next in
    let f = c.finish.ensures in
    kept_to_end c.args.plan.now c.args.session.now old c.finish.new.session c.events.made c.in-End.ending c.finish.result c.events.invariant.kept is f.accepts f.ended f.saved f.device f.failed
