use Rattle.std.proofs.Common.{rules}
use Rattle.ckrt_disk.proofs.failing.FailingDiskDisk.sync.Goals as goal

pub returns-then-self-clause-pending : goal.returns-then-self-clause-pending
returns-then-self-clause-pending g c = search rules
