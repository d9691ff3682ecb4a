use Rattle.std.proofs.Common.{rules}
use Rattle.ckrt_registers.proofs.Regs.get.Goals as goal

pub returns : goal.returns
returns c = search rules
