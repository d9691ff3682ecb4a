use Rattle.ckrt_machine.proofs.PlanLaws.{planned_accepted}
use Rattle.ckrt_machine.proofs.laws.planned_is_accepted.Goals as goal

pub returns : goal.returns
returns c = record { accepted = planned_accepted }
