use Rattle.ckrt_tables.proofs.AllFit.{all_true}
use Rattle.ckrt_tables.proofs.fitting.known_live.Goals as goal

pub known_all-requires : goal.known_all-requires
known_all-requires c = all_true c.as_slice.result.now
