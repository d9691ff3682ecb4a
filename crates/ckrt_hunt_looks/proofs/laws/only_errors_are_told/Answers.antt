use Rattle.ckrt_hunt_looks.proofs.LawLemmas.{only_errors}
use Rattle.ckrt_hunt_looks.proofs.laws.only_errors_are_told.Goals as goal

pub returns : goal.returns
returns c = only_errors
