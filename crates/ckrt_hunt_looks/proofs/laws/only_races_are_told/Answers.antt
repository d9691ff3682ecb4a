use Rattle.ckrt_hunt_looks.proofs.LawLemmas.{only_races}
use Rattle.ckrt_hunt_looks.proofs.laws.only_races_are_told.Goals as goal

pub returns : goal.returns
returns c = only_races
