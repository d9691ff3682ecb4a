use Rattle.ckrt_look_clocks.proofs.RaceLemmas.{only_races}
use Rattle.ckrt_look_clocks.proofs.laws.only_races_are_found.Goals as goal

pub returns : goal.returns
returns c = only_races
