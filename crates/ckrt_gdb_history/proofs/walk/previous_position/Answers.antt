use Rattle.std.proofs.Common.{◌≡◌, ◌<◌, ◌-◌, ◌∙◌, length, slice_index, refl, ap, arith}
use Rattle.ckrt_gdb_history.specs.Positions.{positions_after}
use Rattle.ckrt_gdb_history.proofs.OrderLemmas.{previous_first, previous_over, previous_within, same_position, steps_index}
use Rattle.ckrt_gdb_history.proofs.PlaceLemmas.{steps_length}
use Rattle.ckrt_gdb_history.proofs.walk.previous_position.Goals as goal

pub returns-then-at-gt0 : goal.returns-then-at-gt0
returns-then-at-gt0 c = λ es s are. previous_within es s c.args.at c.if-at-gt0.true

pub returns-then-at-eq0 : goal.returns-then-at-eq0
returns-then-at-eq0 c = λ es s are. previous_first es s c.args.at (omega (arith, c.if-at-gt0.false)) c.if-at-eq0.true

pub returns : goal.returns
returns c = λ es s are.
    let at = c.args.at in let k = at.events - 1 in
    let size = ap length are ∙ steps_length es s in
    let some : 0 < at.events = omega (arith, c.if-at-eq0.false) in
    let none : at.steps ≡ 0 = omega (arith, c.if-at-gt0.false) in
    let all : slice_index c.args.steps.now k ≡ positions_after k es s = ap (λ l. slice_index l k) are ∙ steps_index k es s (omega (arith, c.requires, size, some)) in
    same_position _ (record { events = k; steps = positions_after k es s - 1 }) refl (c.saturating_sub.ensures ∙ ap (λ n. n - 1) all)
    ∙ previous_over es s at none some
