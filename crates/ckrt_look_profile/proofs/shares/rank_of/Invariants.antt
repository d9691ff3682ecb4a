use Rattle.std.proofs.Common.{◌≡◌, ◌+◌, drop}
use Rattle.ckrt_look_profile.specs.Shares.{rank_of}
use Rattle.ckrt_look_profile.proofs.shares.rank_of.Given as goal

-- none of those before has fewer
abbrev pub invariant-loop-place : goal.invariant-loop-place
invariant-loop-place l = rank_of l.steps l.ranked ≡ l.place + rank_of l.steps (drop l.place l.ranked)
