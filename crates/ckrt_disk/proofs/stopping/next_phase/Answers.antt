use Rattle.std.proofs.Common.{rules}
use Rattle.ckrt_disk.proofs.stopping.next_phase.Goals as goal

pub returns-then-saturating_add-at_call-clause-at : goal.returns-then-saturating_add-at_call-clause-at
returns-then-saturating_add-at_call-clause-at c = search rules
