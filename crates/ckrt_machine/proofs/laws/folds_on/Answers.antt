use Rattle.ckrt_machine.proofs.FoldLaws.{state_on, output_on, accepted_on}
use Rattle.ckrt_machine.proofs.laws.folds_on.Goals as goal

pub returns-clause-state : goal.returns-clause-state
returns-clause-state c = state_on

pub returns-clause-output : goal.returns-clause-output
returns-clause-output c = output_on

pub returns-clause-accepted : goal.returns-clause-accepted
returns-clause-accepted c = accepted_on
