use Rattle.ckrt_inspect.proofs.WorkedLemmas.{worked_instructions}
use Rattle.ckrt_inspect.proofs.laws.worked_instructions.Goals as goal

pub returns : goal.returns
returns c = worked_instructions
