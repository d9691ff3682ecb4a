use Rattle.ckrt_hunt_looks.proofs.LawLemmas.{of_the_run}
use Rattle.ckrt_hunt_looks.proofs.laws.looks_are_of_the_run.Goals as goal

pub returns : goal.returns
returns c = of_the_run
