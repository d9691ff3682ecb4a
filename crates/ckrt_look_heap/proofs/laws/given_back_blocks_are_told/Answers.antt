use Rattle.ckrt_look_heap.proofs.LawLemmas.{back_told}
use Rattle.ckrt_look_heap.proofs.laws.given_back_blocks_are_told.Goals as goal

pub returns : goal.returns
returns c = back_told
