use Rattle.ckrt_look_clocks.proofs.KeptLemmas.{kept_races}
use Rattle.ckrt_look_clocks.proofs.laws.kept_races_are_found.Goals as goal

pub returns : goal.returns
returns c = kept_races
