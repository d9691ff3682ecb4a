use Rattle.std.proofs.Common.{rules}
use Rattle.ckrt_disk.proofs.memory_file.MemoryFile.new.Goals as goal

pub returns-clause-limits : goal.returns-clause-limits
returns-clause-limits c = search rules
