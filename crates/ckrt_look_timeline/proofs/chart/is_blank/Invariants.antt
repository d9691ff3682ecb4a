use Rattle.std.proofs.Common.{◌≡◌, drop}
use Rattle.ckrt_look_timeline.specs.Charts.{is_blank}
use Rattle.ckrt_look_timeline.proofs.chart.is_blank.Given as goal

abbrev pub invariant-loop-piece : goal.invariant-loop-piece
invariant-loop-piece l = is_blank (drop l.piece-index l.pieces) ≡ is_blank l.pieces
