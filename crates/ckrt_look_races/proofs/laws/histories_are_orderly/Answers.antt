use Rattle.ckrt_look_races.proofs.RiseLemmas.{histories_orderly}
use Rattle.ckrt_look_races.proofs.laws.histories_are_orderly.Goals as goal

pub returns : goal.returns
returns c = histories_orderly
