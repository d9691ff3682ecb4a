use Rattle.ckrt_rv32i.proofs.AlignmentLaws.{aligned_after}
use Rattle.ckrt_rv32i.proofs.execution.execute.Goals as goal

pub returns-clause-aligned : goal.returns-clause-aligned
returns-clause-aligned g c = aligned_after c.in-Some-decode.instr _ _ _ c.requires c.perform.ensures.registers
