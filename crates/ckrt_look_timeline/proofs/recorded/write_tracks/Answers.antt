use Rattle.std.proofs.Common.{◌≡◌, ◌<◌, ◌^◌, ℕ, List, length, sym, subst, arith}
use Rattle.std.specs.Global.{Vec}
use Rattle.ckrt_look_timeline.specs.declared.piece.Piece.{Piece}
use Rattle.ckrt_look_timeline.specs.Pieces.{laid, pieces_at}
use Rattle.ckrt_look_timeline.proofs.recorded.write_tracks.Goals as goal

pub write_chart-requires-clause-few : goal.write_chart-requires-clause-few
write_chart-requires-clause-few g c =
    let z = c.args.timeline.now in
    let same : c.as_slice.result.now ≡ z.tracks.items = c.as_slice.ensures.value in
    subst (λ (vs : List (Vec Piece)). (i : ℕ) → i < length vs → length (laid (pieces_at vs i)) < 2 ^ 64) (sym same)
    (λ i less. omega (arith, c.requires.whole.even i (omega (arith, less, c.requires.whole.threads)), c.requires.few))
