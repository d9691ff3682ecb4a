use Rattle.std.proofs.Common.{rules}
use Rattle.ckrt_rv32i.proofs.instruction.LoadKind.extend.Goals as goal

pub returns-in-Half : goal.returns-in-Half
returns-in-Half c = search rules
