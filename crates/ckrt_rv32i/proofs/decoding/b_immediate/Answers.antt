use Rattle.std.proofs.Common.{rules}
use Rattle.ckrt_rv32i.proofs.decoding.b_immediate.Goals as goal

pub returns-then-value-lt4096 : goal.returns-then-value-lt4096
returns-then-value-lt4096 c = search rules
