use Rattle.std.proofs.Common.{rules}
use Rattle.ckrt_cancel.proofs.requests.request.Goals as goal

pub returns-in_default-thread-clause-result : goal.returns-in_default-thread-clause-result
returns-in_default-thread-clause-result c = search rules
