use Rattle.std.proofs.Common.{rules}
use Rattle.ckrt_machine.proofs.accept.tick_refusal.Goals as goal

pub returns : goal.returns
returns c = search rules
