use Rattle.ckrt_look_clocks.proofs.ChainLemmas.{seen_chains}
use Rattle.ckrt_look_clocks.proofs.laws.seen_by_chains.Goals as goal

pub returns : goal.returns
returns c = seen_chains
