use Rattle.std.proofs.Common.{rules}
use Rattle.ckrt_disk.proofs.system_file.transfer_of.Goals as goal

pub returns-in-Ok-eq0 : goal.returns-in-Ok-eq0
returns-in-Ok-eq0 c = search rules
