use Rattle.ckrt_look_clocks.proofs.RaceLemmas.{clocks_are_exact}
use Rattle.ckrt_look_clocks.proofs.laws.clocks_are_exact.Goals as goal

pub returns : goal.returns
returns c = clocks_are_exact
