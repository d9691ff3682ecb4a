use Rattle.ckrt_look_profile.proofs.SumLemmas.{sums_steps}
use Rattle.ckrt_look_profile.proofs.laws.sums_are_the_steps.Goals as goal

pub returns : goal.returns
returns c = sums_steps
