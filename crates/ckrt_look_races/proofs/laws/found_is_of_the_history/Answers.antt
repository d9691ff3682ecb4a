use Rattle.ckrt_look_races.proofs.RiseLemmas.{found_of_history}
use Rattle.ckrt_look_races.proofs.laws.found_is_of_the_history.Goals as goal

pub returns : goal.returns
returns c = found_of_history
