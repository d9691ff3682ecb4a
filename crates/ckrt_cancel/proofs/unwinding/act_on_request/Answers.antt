use Rattle.std.proofs.Common.{rules}
use Rattle.ckrt_cancel.proofs.unwinding.act_on_request.Goals as goal

pub returns : goal.returns
returns c = search rules
