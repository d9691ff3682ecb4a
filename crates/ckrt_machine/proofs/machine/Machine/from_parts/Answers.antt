use Rattle.std.proofs.Common.{rules}
use Rattle.ckrt_machine.proofs.machine.Machine.from_parts.Goals as goal

pub returns-clause-output : goal.returns-clause-output
returns-clause-output c = search rules
