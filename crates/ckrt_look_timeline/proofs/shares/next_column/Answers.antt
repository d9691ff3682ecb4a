use Rattle.std.proofs.Common.{◌≡◌, ◌≤◌, ◌<◌, ◌+◌, ◌-◌, ◌^◌, get_or, length, sym, subst, arith}
use Rattle.std.specs.Prelude.{slice_set}
use Rattle.ckrt_look_timeline.specs.declared.piece.Piece.{Piece}
use Rattle.ckrt_look_timeline.specs.declared.shares.Spot.{Spot}
use Rattle.ckrt_look_timeline.specs.Pieces.{laid}
use Rattle.ckrt_look_timeline.specs.Shares.{behind, kind_at, rest_of}
use Rattle.ckrt_look_timeline.proofs.ShareLemmas.{IsCounting, behind_is, behind_spot, counting, nothing, piece_within}
use Rattle.ckrt_look_timeline.proofs.shares.next_column.Goals as goal

pub behind-requires-clause-few : goal.behind-requires-clause-few
behind-requires-clause-few c =
    let ps = c.args.pieces.now in
    let within = piece_within ps c.loop-left.spot.index c.if-spot-pieces.true in
    let few : length (laid ps) < 2 ^ 64 = c.requires.few in
    omega (arith, within, few)

-- some steps of a piece more
pub loop-left-preserved : goal.loop-left-preserved
loop-left-preserved c =
    let ps = c.args.pieces.now in
    let span = c.args.span in
    let from = rest_of ps c.args.spot.now in
    let shares = c.loop-left.shares in
    let left = c.loop-left.left in
    let at = c.loop-left.spot in
    let n = c.min-steps.result in
    let so_far = c.loop-left.invariant in
    let less : at.index < length ps = c.if-spot-pieces.true in
    let p : Piece = get_or ps at.index nothing in
    let used : at.used ≤ p.steps = so_far.spot less in
    let few : n ≤ left = omega (arith, c.min-steps.ensures) in
    let fits : at.used + n ≤ p.steps = omega (arith, c.min-steps.ensures, used) in
    let kind : c.kind_at.result ≡ kind_at p.activity = c.kind_at.ensures.kind in
    let low : kind_at p.activity < 11 = omega (arith, kind, c.kind_at.ensures.within) in
    let more = counting ps span from shares left at so_far n less fits few (behind at p n) (behind_is ps at n less fits) low (behind_spot ps at n less fits) in
    subst (λ (z : Spot). IsCounting ps span from (slice_set shares c.kind_at.result (get_or shares c.kind_at.result 0 + n)) (left - n) z) (sym c.behind.ensures)
    (subst (λ j. IsCounting ps span from (slice_set shares j (get_or shares j 0 + n)) (left - n) (behind at p n)) (sym kind) more)
