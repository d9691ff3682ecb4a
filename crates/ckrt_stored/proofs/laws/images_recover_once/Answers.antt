use Rattle.ckrt_stored.proofs.RecoverLemmas.{recovers_once}
use Rattle.ckrt_stored.proofs.laws.images_recover_once.Goals as goal

pub returns : goal.returns
returns c = recovers_once
