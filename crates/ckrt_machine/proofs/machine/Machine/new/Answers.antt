use Rattle.std.proofs.Common.{rules}
use Rattle.ckrt_machine.proofs.machine.Machine.new.Goals as goal

pub returns-clause-fresh : goal.returns-clause-fresh
returns-clause-fresh c = search rules
