use Rattle.std.proofs.Common.{arith, sym, subst, refl, ◌∙◌}
use Rattle.ckrt_memory.proofs.FollowLemmas.{follows_itself, follows_on}
use Rattle.ckrt_hunt_schedules.specs.declared.made.Made.{Made}
use Rattle.ckrt_hunt_schedules.specs.Runs.{HasComeTo}
use Rattle.ckrt_hunt_schedules.proofs.RunLemmas.{comes_from, ends_with}
use Rattle.ckrt_hunt_schedules.proofs.runs.run.Goals as goal

pub events-init : goal.events-init
events-init c = record {
  come = subst (λ (m : Made). HasComeTo c.args.plan.now c.args.machine.now.state m c.args.machine.now.state c.nothing-heard.result) (sym c.nothing-made.ensures) (comes_from c.args.plan.now c.args.machine.now.state c.nothing-heard.result c.nothing-heard.ensures);
  turns = grind (arith, c.nothing-made.ensures);
  harts = refl;
  follows = follows_itself _;
}

pub go_on-requires : goal.go_on-requires
go_on-requires c = record {
  scheduled = sym c.in-Submit.ensures.next;
  fit = c.in-Submit.ensures.fit;
  turns = c.events.invariant.turns;
}

pub events-preserved : goal.events-preserved
events-preserved c = record {
  come = c.go_on.ensures.come c.args.machine.now.state c.events.invariant.come;
  turns = c.go_on.ensures.turns;
  harts = c.go_on.ensures.harts ∙ c.events.invariant.harts;
  follows = follows_on _ _ _ c.events.invariant.follows c.go_on.ensures.follows;
}

pub events-smaller : goal.events-smaller
events-smaller c = omega (arith, c.in-Submit.ensures.fit.events, c.go_on.ensures.events)

pub returns-in-End-clause-ends : goal.returns-in-End-clause-ends
returns-in-End-clause-ends c = ends_with c.args.plan.now c.args.machine.now.state c.events.made c.events.machine.state c.events.heard c.in-End.ending c.finish.result c.events.invariant.come (sym c.in-End.ensures.next) c.finish.ensures.outcome c.finish.ensures.digest c.finish.ensures.made c.finish.ensures.said
