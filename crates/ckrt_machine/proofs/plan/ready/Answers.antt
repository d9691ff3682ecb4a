use Rattle.std.proofs.Common.{◌∙◌, sym, arith, ◌<◌}
use Rattle.ckrt_machine.proofs.PlanLaws.{found, passed}
use Rattle.ckrt_machine.proofs.plan.ready.Goals as goal

pub returns-then-is_ready : goal.returns-then-is_ready
returns-then-is_ready c =
    let l : c.loop-thread.thread < 65 = omega arith in
    sym (found _ _ l (sym c.is_ready.ensures ∙ c.if-is_ready.true)) ∙ c.loop-thread.invariant

pub loop-thread-preserved : goal.loop-thread-preserved
loop-thread-preserved c =
    let l : c.loop-thread.thread < 65 = omega arith in
    sym (passed _ _ l (sym c.is_ready.ensures ∙ c.if-is_ready.false)) ∙ c.loop-thread.invariant
