use Rattle.std.proofs.Common.{rules}
use Rattle.ckrt_cancel.proofs.unwinding.begin_unwind.Goals as goal

pub returns : goal.returns
returns c = search rules
