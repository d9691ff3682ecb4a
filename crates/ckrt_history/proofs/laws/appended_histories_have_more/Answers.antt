use Rattle.ckrt_history.proofs.GrowingLemmas.{appended_has_more}
use Rattle.ckrt_history.proofs.laws.appended_histories_have_more.Goals as goal

pub returns : goal.returns
returns c = appended_has_more
