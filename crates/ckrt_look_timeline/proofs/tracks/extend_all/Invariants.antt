use Rattle.std.proofs.Common.{◌≡◌, ◌≤◌, ◌<◌, ◌++◌, ℕ, List, length, get_or, replicate}
use Rattle.ckrt_look_timeline.specs.declared.piece.Activity.{Activity}
use Rattle.ckrt_look_timeline.specs.declared.piece.Activity.TheVariants as activity
use Rattle.ckrt_look_timeline.specs.Pieces.{ArePieces, pieces_at}
use Rattle.ckrt_look_timeline.proofs.tracks.extend_all.Given as goal

abbrev pub invariant-loop-index : goal.invariant-loop-index
invariant-loop-index l = let old = l.fn.tracks.items in let new = l.tracks.items in record {
  many : length new ≡ length old;
  ahead : (i : ℕ) → l.index ≤ i → pieces_at new i ≡ pieces_at old i;
  behind : (i : ℕ) (track : List Activity) → i < l.index → ArePieces track (pieces_at old i) → ArePieces (track ++ replicate l.steps (get_or l.now i activity.Absent)) (pieces_at new i);
}
