use Rattle.std.proofs.Common.{rules}
use Rattle.ckrt_machine.proofs.accept.input_refusal.Goals as goal

pub returns : goal.returns
returns c = search rules
