use Rattle.std.proofs.Common.{◌≡◌, drop}
use Rattle.ckrt_look_profile.specs.Shares.{ranked, ranked_behind}
use Rattle.ckrt_look_profile.proofs.shares.rank.Given as goal

-- with those ahead, all are ranked
abbrev pub invariant-loop-share : goal.invariant-loop-share
invariant-loop-share l = ranked_behind l.ranked.items (drop l.share-index l.shares) ≡ ranked l.fn.shares
