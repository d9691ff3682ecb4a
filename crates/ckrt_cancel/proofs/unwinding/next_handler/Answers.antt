use Rattle.std.proofs.Common.{rules}
use Rattle.ckrt_cancel.proofs.unwinding.next_handler.Goals as goal

pub returns : goal.returns
returns c = search rules
