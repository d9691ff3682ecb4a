use Rattle.std.proofs.Common.{◌≤◌, ◌<◌, ◌+◌, length, inl, inr, arith}
use Rattle.std.proofs.lemmas.Bool.{cases_lt}
use Rattle.ckrt_disk.proofs.Images.{partly_written, torn_more}
use Rattle.ckrt_disk.proofs.file.write_all.Goals as goal

pub returns-in-Err-clause-torn : goal.returns-in-Err-clause-torn
returns-in-Err-clause-torn g c = λ keeps room.
    let kept : g.F.PositionedFile.keeps_model c.loop-turn.file = c.in-Err.ensures.keeps_model keeps in
    let inside : c.args.at + length c.args.bytes.now ≤ length (g.F.PositionedFile.content c.args.file.now) = omega (arith, room, g.met.F.PositionedFile.whole c.args.file.now (c.loop-turn.invariant.keeps_model kept)) in
    torn_more _ _ _ _ _ _ _ inside c.loop-turn.invariant.bound (c.loop-turn.invariant.written kept room)
    (λ i within. elim (cases_lt i (c.args.at + c.loop-turn.done)) [
      | inl lt ↦ (c.in-Err.ensures.pending keeps i).1 (inl ((c.loop-turn.invariant.pending kept i).1 (inr (within, c.loop-turn.invariant.started (omega (arith, lt, within.0))))))
      | inr le ↦ (c.in-Err.ensures.pending keeps i).1 (inr (le, omega (arith, within.1, c.loop-turn.invariant.bound)))
    ])
    (c.in-Err.ensures.torn keeps)

pub returns-clause-torn : goal.returns-clause-torn
returns-clause-torn g c = λ keeps room.
    let inside : c.args.at + length c.args.bytes.now ≤ length (g.F.PositionedFile.content c.args.file.now) = omega (arith, room, g.met.F.PositionedFile.whole c.args.file.now (c.loop-turn.invariant.keeps_model keeps)) in
    let turned : 0 < c.loop-turn.turn = omega (arith, c.loop-turn-test.false, c.loop-turn.auto.turn-end) in
    partly_written _ _ _ _ _ _ inside c.loop-turn.invariant.bound (c.loop-turn.invariant.written keeps room) (λ i within. (c.loop-turn.invariant.pending keeps i).1 (inr (within, turned)))
