use Rattle.std.proofs.Common.{rules}
use Rattle.ckrt_rv32i.proofs.execution.store.Goals as goal

pub returns-then-not-is_aligned-clause-bytes : goal.returns-then-not-is_aligned-clause-bytes
returns-then-not-is_aligned-clause-bytes g c = search rules
