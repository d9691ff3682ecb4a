use Rattle.std.proofs.Common.{◌≡◌, ◌≤◌, ◌+◌, drop}
use Rattle.ckrt_look_timeline.specs.Charts.{rows_in}
use Rattle.ckrt_look_timeline.specs.Pieces.{tracks_of}
use Rattle.ckrt_look_timeline.proofs.chart.rows_in.Given as goal

abbrev pub invariant-loop-pieces : goal.invariant-loop-pieces
invariant-loop-pieces l = record {
  rows : l.rows + rows_in (tracks_of (drop l.pieces-index l.tracks)) ≡ rows_in (tracks_of l.tracks);
  few : l.rows ≤ l.pieces-index;
}
