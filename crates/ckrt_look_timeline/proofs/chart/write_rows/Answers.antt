use Rattle.std.proofs.Common.{◌≡◌, ◌∙◌, ◌<◌, ◌^◌, List, length, sym, ap, subst}
use Rattle.std.specs.Global.{Vec}
use Rattle.ckrt_look_timeline.specs.declared.piece.Piece.{Piece}
use Rattle.ckrt_look_timeline.specs.Pieces.{laid, pieces_at}
use Rattle.ckrt_look_timeline.proofs.TrackLemmas.{pieces_are}
use Rattle.ckrt_look_timeline.proofs.chart.write_rows.Goals as goal

pub write_row-requires-clause-few : goal.write_row-requires-clause-few
write_row-requires-clause-few g c =
    let vs = c.args.tracks.now in
    let i = c.loop-pieces.pieces-index in
    let item = c.pieces-item.result in
    let same : pieces_at vs i ≡ c.deref-then-not-is_blank.result.now =
    pieces_are vs i item c.loop-pieces-test.true ∙ ap (λ (w : Vec Piece). w.items) (sym c.pieces-item.is) ∙ sym c.deref-then-not-is_blank.ensures.value in
    subst (λ (ps : List Piece). length (laid ps) < 2 ^ 64) same (c.requires.few i c.loop-pieces-test.true)
