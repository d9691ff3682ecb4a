use Rattle.ckrt_hunt_schedules.proofs.DiskLemmas.{is_told}
use Rattle.ckrt_hunt_schedules.proofs.laws.told_is_kept.Goals as goal

pub returns : goal.returns
returns g c = λ program p disk ending told has comes. is_told program p disk ending told has comes
