use Rattle.std.proofs.Common.{rules}
use Rattle.ckrt_events.proofs.line.tick.Goals as goal

pub returns-clause-value : goal.returns-clause-value
returns-clause-value c = search rules
