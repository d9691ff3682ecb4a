use Rattle.ckrt_look_heap.proofs.WithinLemmas.{nothing_left_out}
use Rattle.ckrt_look_heap.proofs.laws.nothing_is_left_out.Goals as goal

pub returns : goal.returns
returns c = nothing_left_out
