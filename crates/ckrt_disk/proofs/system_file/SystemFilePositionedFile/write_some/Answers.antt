use Rattle.std.proofs.Common.{rules}
use Rattle.ckrt_disk.proofs.system_file.SystemFilePositionedFile.write_some.Goals as goal

pub returns-clause-gives : goal.returns-clause-gives
returns-clause-gives g c = search rules
