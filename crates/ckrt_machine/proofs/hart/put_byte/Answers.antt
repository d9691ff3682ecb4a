use Rattle.std.proofs.Common.{rules}
use Rattle.ckrt_machine.proofs.hart.put_byte.Goals as goal

pub returns-in-Some : goal.returns-in-Some
returns-in-Some c = search rules
