use Rattle.ckrt_look_clocks.proofs.SufficeLemmas.{room_for_all}
use Rattle.ckrt_look_clocks.proofs.laws.room_for_all_suffices.Goals as goal

pub returns : goal.returns
returns c = room_for_all
