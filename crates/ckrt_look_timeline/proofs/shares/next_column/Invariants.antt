use Rattle.std.proofs.Common.{◌+◌, ◌-◌, length}
use Rattle.ckrt_look_timeline.specs.Shares.{rest_of}
use Rattle.ckrt_look_timeline.proofs.ShareLemmas.{IsCounting}
use Rattle.ckrt_look_timeline.proofs.shares.next_column.Given as goal

abbrev pub invariant-loop-left : goal.invariant-loop-left
invariant-loop-left l = IsCounting l.pieces l.span (rest_of l.pieces l.fn.spot) l.shares l.left l.spot

abbrev pub decreases-loop-left : goal.decreases-loop-left
decreases-loop-left l = length l.pieces - l.spot.index + l.left
