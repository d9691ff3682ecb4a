use Rattle.std.proofs.Common.{rules}
use Rattle.ckrt_rv32i.proofs.encoding.encode.Goals as goal

pub returns-in-Store : goal.returns-in-Store
returns-in-Store c = search rules
