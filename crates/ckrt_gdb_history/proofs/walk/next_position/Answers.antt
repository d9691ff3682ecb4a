use Rattle.std.proofs.Common.{◌≡◌, ◌∙◌, length, slice_index, ap, arith}
use Rattle.ckrt_gdb_history.specs.Positions.{positions_after}
use Rattle.ckrt_gdb_history.proofs.OrderLemmas.{next_over, next_within, steps_index}
use Rattle.ckrt_gdb_history.proofs.PlaceLemmas.{steps_length}
use Rattle.ckrt_gdb_history.proofs.walk.next_position.Goals as goal

pub returns-then-at-saturating_sub : goal.returns-then-at-saturating_sub
returns-then-at-saturating_sub c = λ es s are one.
    let k = c.args.at.events in
    let size = ap length are ∙ steps_length es s in
    let all : slice_index c.args.steps.now k ≡ positions_after k es s = ap (λ l. slice_index l k) are ∙ steps_index k es s (omega (arith, c.requires, size)) in
    next_within c.args.at es s (omega (arith, c.saturating_sub.ensures, all, c.if-at-saturating_sub.true))

pub returns : goal.returns
returns c = λ es s are one.
    let k = c.args.at.events in
    let size = ap length are ∙ steps_length es s in
    let all : slice_index c.args.steps.now k ≡ positions_after k es s = ap (λ l. slice_index l k) are ∙ steps_index k es s (omega (arith, c.requires, size)) in
    c.at_event.ensures ∙ next_over c.args.at es s (omega (arith, c.saturating_sub.ensures, all, c.if-at-saturating_sub.false))
