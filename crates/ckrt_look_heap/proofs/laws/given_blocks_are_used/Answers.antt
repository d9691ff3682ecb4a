use Rattle.ckrt_look_heap.proofs.LawLemmas.{given_used}
use Rattle.ckrt_look_heap.proofs.laws.given_blocks_are_used.Goals as goal

pub returns : goal.returns
returns c = given_used
