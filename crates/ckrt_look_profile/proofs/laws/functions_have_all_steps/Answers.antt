use Rattle.ckrt_look_profile.proofs.SumLemmas.{functions_steps}
use Rattle.ckrt_look_profile.proofs.laws.functions_have_all_steps.Goals as goal

pub returns : goal.returns
returns c = functions_steps
