use Rattle.ckrt_look_profile.proofs.folded.+write_base.Given as goal

abbrev pub decreases-write_base : goal.decreases-write_base
decreases-write_base g l = l.most
