use Rattle.ckrt_look_races.proofs.CycleLemmas.{only_cycles_told}
use Rattle.ckrt_look_races.proofs.laws.only_cycles_are_told.Goals as goal

pub returns : goal.returns
returns c = only_cycles_told
