use Rattle.std.proofs.Common.{refl}
use Rattle.ckrt_look_heap.proofs.laws.example_is_told.Goals as goal

pub returns : goal.returns
returns c = refl
