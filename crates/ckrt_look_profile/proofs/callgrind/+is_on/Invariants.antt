use Rattle.ckrt_look_profile.proofs.callgrind.+is_on.Given as goal

abbrev pub decreases-is_on : goal.decreases-is_on
decreases-is_on l = l.most
