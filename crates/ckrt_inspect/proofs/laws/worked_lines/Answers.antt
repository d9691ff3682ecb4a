use Rattle.ckrt_inspect.proofs.WorkedLemmas.{worked_lines}
use Rattle.ckrt_inspect.proofs.laws.worked_lines.Goals as goal

pub returns : goal.returns
returns c = worked_lines
