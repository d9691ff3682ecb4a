use Rattle.std.proofs.Common.{◌≡◌, ◌∙◌, arith, ap, refl, sym, rules, is_some, false, Option, Some, None}
use Rattle.ckrt_memory.proofs.StoredLemmas.{follows_stores_on, stores_nothing, within_on}
use Rattle.ckrt_machine.specs.declared.event.RunEnd.{RunEnd}
use Rattle.ckrt_machine.specs.RunsTo.{run_to, stopped_to}
use Rattle.ckrt_machine.proofs.RunToLaws.{met_here}
use Rattle.ckrt_machine.proofs.run_to.run_to.Goals as goal

pub loop-left-init : goal.loop-left-init
loop-left-init g c = record {
  well_formed = c.requires.well_formed;
  within = omega arith;
  going = c.requires.going;
  follows = stores_nothing _ _;
  rest = λ p has. has;
  run = refl;
}

pub returns-then-is_met-clause-run : goal.returns-then-is_met-clause-run
returns-then-is_met-clause-run g c =
    let some = c.loop-left-test.true in
    met_here (g.R.StopReason.meets c.args.reason.now) _ _ _ _ (omega (arith, some)) (sym c.is_met.ensures ∙ c.if-is_met.true) ∙ c.loop-left.invariant.run

pub returns-then-is_some-clause-follows : goal.returns-then-is_some-clause-follows
returns-then-is_some-clause-follows g c = follows_stores_on _ _ _ _ _ c.loop-left.invariant.follows c.turn_to-rest.ensures.follows c.loop-left.invariant.rest

none_of : (o : Option RunEnd) → is_some o ≡ false → o ≡ None
none_of None is = refl
none_of (Some how) is = absurd (cc)

pub loop-left-preserved : goal.loop-left-preserved
loop-left-preserved g c =
    let before = c.loop-left.invariant in let turn = c.turn_to-rest.ensures in let rest = c.turn_to-rest.result.0 in
    let none : is_some c.turn_to-rest.result.1 ≡ false = search rules in
    let less = turn.within in let most = before.within in
    record {
      well_formed = turn.well_formed;
      within = omega (arith, less, most);
      going = turn.going none;
      follows = follows_stores_on _ _ _ _ _ before.follows turn.follows before.rest;
      rest = within_on _ _ _ (turn.rest none) before.rest;
      run = sym (turn.run
          ∙ ap (λ o. stopped_to (run_to (g.R.StopReason.meets c.args.reason.now) rest) o rest c.args.hart (record { bytes = c.turn_to-rest.new.memory.bytes; tables = c.turn_to-rest.new.tables }) c.turn_to-rest.new.output.items) (none_of c.turn_to-rest.result.1 none))
          ∙ before.run;
    }
