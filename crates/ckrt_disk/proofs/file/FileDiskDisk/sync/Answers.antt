use Rattle.std.proofs.Common.{rules}
use Rattle.ckrt_disk.proofs.file.FileDiskDisk.sync.Goals as goal

pub returns-in-Ok-clause-nothing_pending : goal.returns-in-Ok-clause-nothing_pending
returns-in-Ok-clause-nothing_pending g c = search rules
