use Rattle.std.proofs.Common.{◌≡◌, ◌+◌, ◌-◌, length}
use Rattle.std.specs.Prelude.{◌/◌}
use Rattle.ckrt_look_timeline.specs.Pieces.{laid}
use Rattle.ckrt_look_timeline.specs.Shares.{IsSpot, columns_text, dense_text, rest_of}
use Rattle.ckrt_look_calls.proofs.AppendLemmas.{Completes}
use Rattle.ckrt_look_timeline.proofs.shares.write_columns.Given as goal

abbrev pub invariant-loop-column : goal.invariant-loop-column
invariant-loop-column g l = let has = g.W.Write.contents in record {
  spot : IsSpot l.pieces l.spot;
  begin : l.begin + length (rest_of l.pieces l.spot) ≡ length (laid l.pieces);
  text : Completes (has l.fn.out) (has l.out) (columns_text (l.steps / l.span + 1 - l._column) l.span l.thread l.begin (rest_of l.pieces l.spot)) (dense_text l.span l.steps l.thread l.pieces);
}
