use Rattle.std.proofs.Common.{◌≡◌, ◌<◌, ◌∙◌, ap, sym, arith}
use Rattle.ckrt_hunt_schedules.specs.Turns.{hart_from}
use Rattle.ckrt_hunt_schedules.proofs.TurnLemmas.{found, no_hart, passed}
use Rattle.ckrt_hunt_schedules.proofs.turn.hart_with.Goals as goal

pub returns-then-is_on-clause-hart : goal.returns-then-is_on-clause-hart
returns-then-is_on-clause-hart c =
    let l : c.loop-hart.hart < 8 = omega arith in
    sym (found c.args.thread c.loop-hart.hart c.args.tables.now l (sym c.is_on.ensures ∙ c.if-is_on.true)) ∙ c.loop-hart.invariant

pub loop-hart-preserved : goal.loop-hart-preserved
loop-hart-preserved c =
    let l : c.loop-hart.hart < 8 = omega arith in
    sym (passed c.args.thread c.loop-hart.hart c.args.tables.now l (sym c.is_on.ensures ∙ c.if-is_on.false)) ∙ c.loop-hart.invariant

pub returns-clause-hart : goal.returns-clause-hart
returns-clause-hart c =
    let e : c.loop-hart.hart ≡ 8 = omega arith in
    sym (no_hart c.args.thread c.args.tables.now) ∙ ap (λ h. hart_from h c.args.thread c.args.tables.now) (sym e) ∙ c.loop-hart.invariant
