use Rattle.ckrt_history.proofs.PartLemmas.{parts_theirs}
use Rattle.ckrt_history.proofs.laws.parts_have_the_same_events.Goals as goal

pub returns : goal.returns
returns c = parts_theirs
