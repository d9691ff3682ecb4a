use Rattle.std.proofs.Common.{rules}
use Rattle.ckrt_registers.proofs.Regs.set_pc.Goals as goal

pub returns : goal.returns
returns c = search rules
