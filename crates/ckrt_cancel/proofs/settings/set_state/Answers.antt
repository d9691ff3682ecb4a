use Rattle.std.proofs.Common.{rules}
use Rattle.ckrt_cancel.proofs.settings.set_state.Goals as goal

pub returns-clause-threads : goal.returns-clause-threads
returns-clause-threads c = search rules
