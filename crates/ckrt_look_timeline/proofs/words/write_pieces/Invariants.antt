use Rattle.std.proofs.Common.{◌≡◌, ◌+◌, drop, length}
use Rattle.ckrt_look_timeline.specs.Pieces.{laid}
use Rattle.ckrt_look_timeline.specs.Texts.{pieces_text}
use Rattle.ckrt_look_calls.proofs.AppendLemmas.{Completes}
use Rattle.ckrt_look_timeline.proofs.words.write_pieces.Given as goal

abbrev pub invariant-loop-piece : goal.invariant-loop-piece
invariant-loop-piece g l = let has = g.W.Write.contents in record {
  begin : l.begin + length (laid (drop l.piece-index l.pieces)) ≡ length (laid l.pieces);
  text : Completes (has l.fn.out) (has l.out) (pieces_text l.form l.thread l.begin (drop l.piece-index l.pieces)) (pieces_text l.form l.thread 0 l.pieces);
}
