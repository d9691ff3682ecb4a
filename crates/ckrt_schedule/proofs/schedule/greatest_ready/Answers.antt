use Rattle.std.proofs.Common.{◌∙◌, ◌-◌, ◌<◌, sym, arith}
use Rattle.ckrt_schedule.proofs.SearchLemmas.{greatest_found, greatest_passed}
use Rattle.ckrt_schedule.proofs.schedule.greatest_ready.Goals as goal

pub returns-then-is_ready-clause-greatest : goal.returns-then-is_ready-clause-greatest
returns-then-is_ready-clause-greatest c =
    let l : 0 < c.loop-thread.thread - 1 = omega arith in
    sym (greatest_found _ _ l (sym c.is_ready.ensures ∙ c.if-is_ready.true)) ∙ c.loop-thread.invariant

pub loop-thread-preserved : goal.loop-thread-preserved
loop-thread-preserved c =
    let l : 0 < c.loop-thread.thread - 1 = omega arith in
    sym (greatest_passed _ _ l (sym c.is_ready.ensures ∙ c.if-is_ready.false)) ∙ c.loop-thread.invariant
