use Rattle.std.proofs.Common.{subst}
use Rattle.ckrt_machine.specs.Steps.{State}
use Rattle.ckrt_hunt_schedules.specs.Runs.{ComesTo}
use Rattle.ckrt_hunt_schedules.proofs.DiskLemmas.{is_told}
use Rattle.ckrt_hunt_schedules.proofs.laws.told_is_kept_short.Goals as goal

pub returns : goal.returns
returns g c = λ h seed program p disk ending told begins repeats has comes.
    is_told program p disk ending told has (subst (λ (s : State). ComesTo p s told) begins (repeats.same told comes))
