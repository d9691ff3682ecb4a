use Rattle.ckrt_stored.proofs.SwitchLemmas.{switched}
use Rattle.ckrt_stored.proofs.laws.newest_area_takes_over.Goals as goal

pub returns : goal.returns
returns c = switched
