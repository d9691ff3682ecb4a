use Rattle.std.proofs.Common.{rules}
use Rattle.ckrt_rv32i.proofs.execution.even_address.Goals as goal

pub returns : goal.returns
returns c = search rules
