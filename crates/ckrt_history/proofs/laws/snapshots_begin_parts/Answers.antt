use Rattle.ckrt_history.proofs.OwnLemmas.{snapshots_begin_parts}
use Rattle.ckrt_history.proofs.laws.snapshots_begin_parts.Goals as goal

pub returns : goal.returns
returns c = snapshots_begin_parts
