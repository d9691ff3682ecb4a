use Rattle.ckrt_inspect.proofs.WorkedLemmas.{worked_listings}
use Rattle.ckrt_inspect.proofs.laws.worked_listings.Goals as goal

pub returns : goal.returns
returns c = worked_listings
