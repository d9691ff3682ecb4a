use Rattle.std.proofs.Common.{rules}
use Rattle.ckrt_disk.proofs.stopping.CallCount.note_read.Goals as goal

pub returns-clause-stop : goal.returns-clause-stop
returns-clause-stop c = search rules
