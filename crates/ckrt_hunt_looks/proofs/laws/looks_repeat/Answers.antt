use Rattle.ckrt_hunt_looks.proofs.LawLemmas.{repeat}
use Rattle.ckrt_hunt_looks.proofs.laws.looks_repeat.Goals as goal

pub returns : goal.returns
returns c = repeat
