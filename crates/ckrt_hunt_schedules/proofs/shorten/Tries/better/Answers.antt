use Rattle.std.proofs.Common.{refl, subst, arith}
use Rattle.ckrt_hunt_schedules.specs.Short.{IsFound}
use Rattle.ckrt_hunt_schedules.specs.Tallies.{Hunted}
use Rattle.ckrt_hunt_schedules.proofs.shorten.Tries.better.Goals as goal

-- the later one has fewer switches
pub returns-then-found-own-clause-chosen : goal.returns-then-found-own-clause-chosen
returns-then-found-own-clause-chosen c = record {
  same = c.if-not-come_to_one.ensures.same refl;
  is_found = subst (λ (h : Hunted). IsFound h c.args.later c.found_by-found.result) c.come_to_one.ensures.hunt c.found_by-found.ensures.found;
  own = c.args.own;
  is_own = c.requires;
  few = omega (arith, c.if-found-own.true);
}
