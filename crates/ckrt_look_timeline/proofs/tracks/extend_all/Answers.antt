use Rattle.std.proofs.Common.{◌≡◌, ◌<◌, ◌++◌, List, get_or, length, replicate, subst, sym, ap, ◌∙◌, arith}
use Rattle.std.proofs.lemmas.List.{length-set}
use Rattle.std.specs.Global.{Vec}
use Rattle.std.specs.Prelude.{slice_set}
use Rattle.ckrt_look_timeline.specs.declared.piece.Piece.{Piece}
use Rattle.ckrt_look_timeline.specs.declared.piece.Activity.{Activity}
use Rattle.ckrt_look_timeline.specs.declared.piece.Activity.TheVariants as activity
use Rattle.ckrt_look_timeline.specs.Pieces.{ArePieces, pieces_at}
use Rattle.ckrt_look_timeline.proofs.TrackLemmas.{pieces_are, pieces_kept, pieces_set, up_to}
use Rattle.ckrt_look_timeline.proofs.tracks.extend_all.Goals as goal

pub loop-index-preserved : goal.loop-index-preserved
loop-index-preserved c =
    let old = c.args.tracks.now.items in
    let now = c.loop-index.tracks.items in
    let i = c.loop-index.index in
    let v = c.extend.new.pieces in
    let so_far = c.loop-index.invariant in
    let less_length : i < length now = omega (arith, c.loop-index-test.true, c.requires.each, so_far.many) in
    let read : c.index_mut.result.now ≡ get_or now i c.index_mut.result.now = c.index_mut.ensures.value in
    let was : pieces_at old i ≡ c.index_mut.result.now.items = sym (so_far.ahead i (omega arith)) ∙ pieces_are now i c.index_mut.result.now less_length ∙ ap (λ (w : Vec Piece). w.items) (sym read) in
    record {
      many = length-set now i v ∙ so_far.many;
      ahead = λ j le. pieces_kept now i j v (omega (arith, le)) ∙ so_far.ahead j (omega (arith, le));
      behind = λ j track less are. up_to (λ k. (t : List Activity) → ArePieces t (pieces_at old k) → ArePieces (t ++ replicate c.args.steps (get_or c.args.now.now k activity.Absent)) (pieces_at (slice_set now i v) k)) i j
          (λ k before t was. subst (ArePieces _) (sym (pieces_kept now i k v (omega (arith, before)))) (so_far.behind k t before was))
          (λ t were. subst (ArePieces _) (sym (pieces_set now i v less_length)) (c.in_ok-extend.ensures.extended t (subst (ArePieces t) was were)))
          less track are;
    }

pub returns-clause-extended : goal.returns-clause-extended
returns-clause-extended c = λ i track less are. c.loop-index.invariant.behind i track (omega (arith, less, c.loop-index.auto.index-end, c.requires.each, c.loop-index-test.false)) are
