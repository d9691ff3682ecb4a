use Rattle.ckrt_hunt_looks.proofs.LawLemmas.{only_cycles}
use Rattle.ckrt_hunt_looks.proofs.laws.only_cycles_are_told.Goals as goal

pub returns : goal.returns
returns c = only_cycles
