use Rattle.std.proofs.Common.{rules}
use Rattle.ckrt_stored.proofs.config.Config.is_valid.Goals as goal

pub returns-then-self-ge4096 : goal.returns-then-self-ge4096
returns-then-self-ge4096 c = search rules
