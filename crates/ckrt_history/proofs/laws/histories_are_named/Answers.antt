use Rattle.ckrt_history.proofs.FrontLemmas.{history_by_front}
use Rattle.ckrt_history.proofs.laws.histories_are_named.Goals as goal

pub returns : goal.returns
returns c = history_by_front
