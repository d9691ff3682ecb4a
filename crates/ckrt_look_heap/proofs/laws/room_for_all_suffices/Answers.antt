use Rattle.ckrt_look_heap.proofs.SufficeLemmas.{room_for_all}
use Rattle.ckrt_look_heap.proofs.laws.room_for_all_suffices.Goals as goal

pub returns : goal.returns
returns c = room_for_all
