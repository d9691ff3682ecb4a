use Rattle.std.proofs.Common.{rules}
use Rattle.ckrt_cancel.proofs.requests.point.Goals as goal

pub returns-then-acts-clause-threads : goal.returns-then-acts-clause-threads
returns-then-acts-clause-threads c = search rules
