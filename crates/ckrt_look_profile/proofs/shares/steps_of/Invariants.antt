use Rattle.std.proofs.Common.{◌≡◌, drop}
use Rattle.ckrt_look_profile.specs.Shares.{steps_behind}
use Rattle.ckrt_look_profile.proofs.shares.steps_of.Given as goal

-- with those ahead, these are all
abbrev pub invariant-loop-share : goal.invariant-loop-share
invariant-loop-share l = steps_behind l.steps (drop l.share-index l.shares) ≡ steps_behind 0 l.fn.shares
