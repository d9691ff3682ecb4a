use Rattle.ckrt_stored.proofs.GrowthLemmas.{spare_free}
use Rattle.ckrt_stored.proofs.laws.spare_bytes_are_free.Goals as goal

pub returns : goal.returns
returns c = spare_free
