use Rattle.std.proofs.Common.{rules}
use Rattle.ckrt_rv32i.proofs.execution.load.Goals as goal

pub returns-then-not-is_aligned-clause-registers : goal.returns-then-not-is_aligned-clause-registers
returns-then-not-is_aligned-clause-registers g c = search rules
