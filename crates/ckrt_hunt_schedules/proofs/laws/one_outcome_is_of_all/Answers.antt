use Rattle.ckrt_hunt_schedules.proofs.OneLemmas.{one_of_all}
use Rattle.ckrt_hunt_schedules.proofs.laws.one_outcome_is_of_all.Goals as goal

pub returns : goal.returns
returns c = one_of_all
