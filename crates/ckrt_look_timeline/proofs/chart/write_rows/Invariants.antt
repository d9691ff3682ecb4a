use Rattle.std.proofs.Common.{◌≡◌, ◌≤◌, ◌+◌, ◌*◌, drop}
use Rattle.ckrt_look_timeline.specs.Charts.{rows_text}
use Rattle.ckrt_look_timeline.specs.Pieces.{tracks_of}
use Rattle.ckrt_look_calls.proofs.AppendLemmas.{Completes}
use Rattle.ckrt_look_timeline.proofs.chart.write_rows.Given as goal

abbrev pub invariant-loop-pieces : goal.invariant-loop-pieces
invariant-loop-pieces g l = let has = g.W.Write.contents in record {
  thread : l.thread ≡ l.pieces-index + 1;
  top : l.top ≤ 80 + 24 * l.pieces-index;
  text : Completes (has l.fn.out) (has l.out) (rows_text l.form l.chart l.thread l.top (tracks_of (drop l.pieces-index l.tracks))) (rows_text l.form l.chart 1 80 (tracks_of l.tracks));
}
