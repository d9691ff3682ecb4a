use Rattle.ckrt_stored.proofs.PastFaultLemmas.{past_fault}
use Rattle.ckrt_stored.proofs.laws.past_of_an_image_has_its_faults.Goals as goal

pub returns : goal.returns
returns c = past_fault
