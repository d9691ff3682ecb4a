use Rattle.std.proofs.Common.{◌≡◌, ◌∙◌, subst, sym}
use Rattle.ckrt_hunt_schedules.specs.Tallies.{Hunted, SeedComesTo, SeedEndsWith, plan_in}
use Rattle.ckrt_hunt_schedules.specs.declared.runs.Told.{Told}
use Rattle.ckrt_hunt_schedules.proofs.RunLemmas.{same_told}
use Rattle.ckrt_hunt_schedules.proofs.SameLemmas.{told_decides}
use Rattle.ckrt_hunt_schedules.proofs.shorten.come_to_one.Goals as goal

-- what was told of both is the same
pub returns-clause-same : goal.returns-clause-same
returns-clause-same c = λ yes told comes.
    let h = c.args.hunt.now in
    let own = c.run_seed-own.result in
    let other = c.run_seed-other.result in
    let is : other.told ≡ own.told = (told_decides other.told own.told).0 (sym c.eq.ensures ∙ yes) in
    let first : SeedEndsWith h c.args.first own = c.run_seed-own.ensures.ends in
    let again : SeedEndsWith h c.args.seed other = subst (λ (k : Hunted). SeedEndsWith k c.args.seed other) c.run_seed-own.ensures.same c.run_seed-other.ensures.ends in
    subst (λ (t : Told). SeedComesTo h c.args.seed t) (is ∙ same_told (plan_in h c.args.first) h.start own.told told first.comes comes) again.comes
