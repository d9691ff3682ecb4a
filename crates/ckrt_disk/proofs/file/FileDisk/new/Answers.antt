use Rattle.std.proofs.Common.{rules}
use Rattle.ckrt_disk.proofs.file.FileDisk.new.Goals as goal

pub returns-clause-failures : goal.returns-clause-failures
returns-clause-failures g c = search rules
