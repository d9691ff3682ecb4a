use Rattle.ckrt_look_heap.proofs.OnlyLemmas.{only_errors}
use Rattle.ckrt_look_heap.proofs.laws.only_errors_are_told.Goals as goal

pub returns : goal.returns
returns c = only_errors
