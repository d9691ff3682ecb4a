use Rattle.std.proofs.Common.{◌≡◌, ◌∙◌, ◌<◌, ◌+◌, length, refl, ap, sym, subst, arith}
use Rattle.std.proofs.lemmas.Option.{slice_get_read}
use Rattle.ckrt_gdb_history.specs.declared.position.Position.{Position}
use Rattle.ckrt_gdb_history.specs.Positions.{state_before}
use Rattle.ckrt_gdb_history.specs.Engine.{IsAt}
use Rattle.ckrt_gdb_history.proofs.AtLemmas.{behind_event, into_of}
use Rattle.ckrt_gdb_history.proofs.walk.finish_events.Goals as goal

pub loop-at-init : goal.loop-at-init
loop-at-init c = record {
  at = λ s at. at;
  events = c.requires.ahead;
  steps = omega arith;
  begun = λ less. absurd (omega (arith, less));
  behind = omega arith;
  size = refl;
}

pub finish-requires : goal.finish-requires
finish-requires c =
    let s = c.requires.at.0 in let es = c.args.events.now in let p = c.loop-at.at in
    let less : p.events < length es = omega (arith, c.loop-at-test.true, c.requires.count) in
    let is = slice_get_read es (length es) p.events c.index-events-at.result refl less c.index-events-at.is in
    (state_before p.events es s, into_of p es s c.loop-at.machine c.index-events-at.result (c.loop-at.invariant.at s c.requires.at.1) is)

pub loop-at-preserved : goal.loop-at-preserved
loop-at-preserved c =
    let es = c.args.events.now in let p = c.loop-at.at in let e = c.index-events-at.result in
    let before = c.loop-at.invariant in
    let less : p.events < length es = omega (arith, c.loop-at-test.true, c.requires.count) in
    let is = slice_get_read es (length es) p.events e refl less c.index-events-at.is in
    let events : c.at_event-at.result.events ≡ p.events + 1 = ap (λ (q : Position). q.events) c.at_event-at.ensures in
    let steps : c.at_event-at.result.steps ≡ 0 = ap (λ (q : Position). q.steps) c.at_event-at.ensures in
    let behind = before.behind in
    record {
      at = λ s at.
          let old = before.at s at in
          subst (λ q. IsAt c.finish.new.machine q es s) (sym c.at_event-at.ensures)
          (behind_event p es s c.loop-at.machine e old is c.finish.new.machine (c.finish.ensures.state (state_before p.events es s) (into_of p es s c.loop-at.machine e old is)));
      events = omega (arith, events, c.loop-at-test.true);
      steps = omega (arith, steps);
      begun = λ _. steps;
      behind = omega (arith, events, behind);
      size = c.finish.ensures.size ∙ before.size;
    }

pub returns-clause-at : goal.returns-clause-at
returns-clause-at c = c.loop-at.invariant.at
