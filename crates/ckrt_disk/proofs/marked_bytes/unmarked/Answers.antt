use Rattle.std.proofs.Common.{arith}
use Rattle.std.proofs.lemmas.Grind.{common_steps}
use Rattle.ckrt_disk.proofs.marked_bytes.unmarked.Goals as goal

pub returns-clause-nothing_pending : goal.returns-clause-nothing_pending
returns-clause-nothing_pending c = grind (arith, common_steps)
