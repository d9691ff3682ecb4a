use Rattle.std.proofs.Common.{rules}
use Rattle.ckrt_machine.proofs.ending.leave.Goals as goal

pub returns-else-initial-clause-tables : goal.returns-else-initial-clause-tables
returns-else-initial-clause-tables c = search rules
