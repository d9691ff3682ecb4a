use Rattle.ckrt_stored.proofs.GrowthLemmas.{framed}
use Rattle.ckrt_stored.proofs.laws.unused_area_is_free.Goals as goal

pub returns : goal.returns
returns c = framed
