use Rattle.ckrt_hunt_schedules.proofs.RunLemmas.{same_told}
use Rattle.ckrt_hunt_schedules.proofs.laws.seed_repeats.Goals as goal

pub returns : goal.returns
returns c = λ p start a b. same_told p start a b
