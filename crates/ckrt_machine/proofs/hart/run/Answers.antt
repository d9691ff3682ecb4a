use Rattle.std.proofs.Common.{◌≡◌, ◌∙◌, arith, ap, refl, sym, rules, is_some, false, Option, Some, None}
use Rattle.ckrt_memory.proofs.StoredLemmas.{follows_stores_on, stores_nothing, within_on}
use Rattle.ckrt_machine.specs.declared.event.RunEnd.{RunEnd}
use Rattle.ckrt_machine.specs.Runs.{run_on, stopped}
use Rattle.ckrt_machine.proofs.hart.run.Goals as goal

pub loop-left-init : goal.loop-left-init
loop-left-init c = record {
  well_formed = c.requires.well_formed;
  within = omega arith;
  going = c.requires.going;
  follows = stores_nothing _ _;
  rest = λ p has. has;
  run = refl;
}

pub returns-in-Some-clause-follows : goal.returns-in-Some-clause-follows
returns-in-Some-clause-follows c = follows_stores_on _ _ _ _ _ c.loop-left.invariant.follows c.turn-rest.ensures.follows c.loop-left.invariant.rest

none_of : (o : Option RunEnd) → is_some o ≡ false → o ≡ None
none_of None is = refl
none_of (Some how) is = absurd (cc)

pub loop-left-preserved : goal.loop-left-preserved
loop-left-preserved c =
    let before = c.loop-left.invariant in let turn = c.turn-rest.ensures in let rest = c.turn-rest.result.0 in
    let none : is_some c.turn-rest.result.1 ≡ false = search rules in
    let less = turn.within in let most = before.within in
    record {
      well_formed = turn.well_formed;
      within = omega (arith, less, most);
      going = turn.going none;
      follows = follows_stores_on _ _ _ _ _ before.follows turn.follows before.rest;
      rest = within_on _ _ _ (turn.rest none) before.rest;
      run = sym (turn.run
          ∙ ap (λ o. stopped (run_on rest) o rest c.args.hart (record { bytes = c.turn-rest.new.memory.bytes; tables = c.turn-rest.new.tables }) c.turn-rest.new.output.items) (none_of c.turn-rest.result.1 none))
          ∙ before.run;
    }
