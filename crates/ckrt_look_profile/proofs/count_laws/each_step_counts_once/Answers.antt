use Rattle.ckrt_look_profile.proofs.CountSumLemmas.{each_counts_once}
use Rattle.ckrt_look_profile.proofs.count_laws.each_step_counts_once.Goals as goal

pub returns : goal.returns
returns c = each_counts_once
