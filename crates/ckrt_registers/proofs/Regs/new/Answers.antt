use Rattle.std.proofs.Common.{rules}
use Rattle.ckrt_registers.proofs.Regs.new.Goals as goal

pub returns : goal.returns
returns c = search rules
