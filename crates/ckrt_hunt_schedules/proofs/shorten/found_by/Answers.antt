use Rattle.std.proofs.Common.{refl, subst, sym, arith}
use Rattle.ckrt_hunt_schedules.specs.Runs.{EndsWith}
use Rattle.ckrt_hunt_schedules.specs.Short.{Repeats}
use Rattle.ckrt_hunt_schedules.specs.Tallies.{Hunted, plan_in}
use Rattle.ckrt_hunt_schedules.specs.declared.plan.Plan.{Plan}
use Rattle.ckrt_hunt_schedules.proofs.ShortLemmas.{repeats, repeats_itself, switches_of}
use Rattle.ckrt_hunt_schedules.proofs.shorten.found_by.Goals as goal

-- the plan with the turns comes to the same
pub returns-then-is_as_good-clause-found : goal.returns-then-is_as_good-clause-found
returns-then-is_as_good-clause-found c =
    let h = c.args.hunt.now in
    let seed = c.args.seed in
    let drawn = plan_in h seed in
    let p = c.with_turns-plan.result in
    let run = c.run_by-first.result in
    let other = c.run_by-again.result in
    let first : EndsWith drawn h.start run = subst (λ (q : Plan). EndsWith q h.start run) c.plan_of-drawn.ensures c.run_by-first.ensures.ends in
    let again : EndsWith p h.start other = subst (λ (k : Hunted). EndsWith p k.start other) c.run_by-first.ensures.same c.run_by-again.ensures.ends in
    record {
      repeats = repeats h seed p run other first again (c.if-is_as_good.ensures.same refl) (c.if-is_as_good.ensures.events refl);
      drawn = switches_of drawn h.start run first;
      switches = switches_of p h.start other again;
      few = c.if-is_as_good.ensures.switches refl;
    }

-- it is that of the seed
pub returns-else-is_as_good-clause-found : goal.returns-else-is_as_good-clause-found
returns-else-is_as_good-clause-found c =
    let h = c.args.hunt.now in
    let seed = c.args.seed in
    let p = c.plan_of-drawn.result in
    let run = c.run_by-first.result in
    let drawn = subst (λ (q : Plan). EndsWith q h.start run) c.plan_of-drawn.ensures c.run_by-first.ensures.ends in
    record {
      repeats = subst (λ (q : Plan). Repeats h seed q) (sym c.plan_of-drawn.ensures) (repeats_itself h seed);
      drawn = switches_of (plan_in h seed) h.start run drawn;
      switches = switches_of p h.start run c.run_by-first.ensures.ends;
      few = omega arith;
    }
