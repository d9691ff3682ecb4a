use Rattle.std.proofs.Common.{rules}
use Rattle.ckrt_registers.proofs.Regs.put.Goals as goal

pub invariant_of-self : goal.invariant_of-self
invariant_of-self c = search rules
