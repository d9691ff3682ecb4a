use Rattle.std.proofs.Common.{rules}
use Rattle.ckrt_stored.proofs.formatting.check.Goals as goal

pub returns-then-size-size_needed-clause-refused : goal.returns-then-size-size_needed-clause-refused
returns-then-size-size_needed-clause-refused c = search rules
