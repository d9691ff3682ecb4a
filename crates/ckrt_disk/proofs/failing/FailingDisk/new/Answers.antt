use Rattle.std.proofs.Common.{rules}
use Rattle.ckrt_disk.proofs.failing.FailingDisk.new.Goals as goal

pub returns-clause-count : goal.returns-clause-count
returns-clause-count g c = search rules
