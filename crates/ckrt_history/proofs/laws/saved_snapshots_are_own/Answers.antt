use Rattle.ckrt_history.proofs.OwnLemmas.{saved_own}
use Rattle.ckrt_history.proofs.laws.saved_snapshots_are_own.Goals as goal

pub returns : goal.returns
returns c = saved_own
