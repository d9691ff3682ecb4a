use Rattle.ckrt_look_profile.proofs.LeavingLemmas.{met_at_jumps}
use Rattle.ckrt_look_profile.proofs.leaving.AtLeavingStopReason.is_only_at_jumps.Goals as goal

pub returns : goal.returns
returns c = λ _. met_at_jumps
