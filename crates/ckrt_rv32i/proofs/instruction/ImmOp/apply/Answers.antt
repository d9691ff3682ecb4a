use Rattle.std.proofs.Common.{rules}
use Rattle.ckrt_rv32i.proofs.instruction.ImmOp.apply.Goals as goal

pub returns-in-Sltiu : goal.returns-in-Sltiu
returns-in-Sltiu c = search rules
