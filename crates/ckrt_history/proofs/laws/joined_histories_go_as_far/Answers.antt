use Rattle.ckrt_history.proofs.KeptLemmas.{begins_at_end}
use Rattle.ckrt_history.proofs.laws.joined_histories_go_as_far.Goals as goal

pub returns : goal.returns
returns c = begins_at_end
