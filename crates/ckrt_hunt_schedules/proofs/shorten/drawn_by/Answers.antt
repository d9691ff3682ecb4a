use Rattle.std.proofs.Common.{subst, sym, arith}
use Rattle.ckrt_hunt_schedules.specs.Runs.{EndsWith}
use Rattle.ckrt_hunt_schedules.specs.Short.{Repeats}
use Rattle.ckrt_hunt_schedules.specs.Tallies.{plan_in}
use Rattle.ckrt_hunt_schedules.specs.declared.plan.Plan.{Plan}
use Rattle.ckrt_hunt_schedules.proofs.ShortLemmas.{repeats_itself, switches_of}
use Rattle.ckrt_hunt_schedules.proofs.shorten.drawn_by.Goals as goal

-- it is that of the seed
pub returns-clause-found : goal.returns-clause-found
returns-clause-found c =
    let h = c.args.hunt.now in
    let seed = c.args.seed in
    let p = c.plan_of-plan.result in
    let run = c.run_by-switches.result in
    let drawn = subst (λ (q : Plan). EndsWith q h.start run) c.plan_of-plan.ensures c.run_by-switches.ensures.ends in
    record {
      repeats = subst (λ (q : Plan). Repeats h seed q) (sym c.plan_of-plan.ensures) (repeats_itself h seed);
      drawn = switches_of (plan_in h seed) h.start run drawn;
      switches = switches_of p h.start run c.run_by-switches.ensures.ends;
      few = omega arith;
    }
