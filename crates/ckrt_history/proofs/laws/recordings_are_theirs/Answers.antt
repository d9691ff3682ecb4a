use Rattle.ckrt_history.proofs.TheirsLemmas.{recordings_theirs}
use Rattle.ckrt_history.proofs.laws.recordings_are_theirs.Goals as goal

pub returns : goal.returns
returns c = recordings_theirs
