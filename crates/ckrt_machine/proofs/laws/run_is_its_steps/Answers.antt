use Rattle.ckrt_machine.proofs.StepsOfRuns.{made_steps}
use Rattle.ckrt_machine.proofs.laws.run_is_its_steps.Goals as goal

pub returns : goal.returns
returns c = record { steps = made_steps }
