use Rattle.ckrt_look_races.proofs.RiseLemmas.{only_races_told}
use Rattle.ckrt_look_races.proofs.laws.only_races_are_told.Goals as goal

pub returns : goal.returns
returns c = only_races_told
