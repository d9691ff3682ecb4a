use Rattle.std.proofs.Common.{◌≡◌, ◌∙◌, ◌+◌, ◌-◌, suc, ap, sym, arith}
use Rattle.ckrt_hunt_schedules.specs.Turns.{best_among}
use Rattle.ckrt_hunt_schedules.proofs.TurnLemmas.{best_on, none_best}
use Rattle.ckrt_hunt_schedules.proofs.turn.best.Goals as goal

pub loop-thread-init : goal.loop-thread-init
loop-thread-init c = (sym (none_best c.args.plan.now c.args.made.now c.args.threads.now), tt)

pub loop-thread-preserved : goal.loop-thread-preserved
loop-thread-preserved c =
    let t = c.loop-thread.thread in
    let next : t ≡ suc (t - 1) = omega arith in
    let back : t ≡ t + 1 - 1 = omega arith in (
      c.consider-best.ensures.best ∙ best_on c.args.plan.now c.args.made.now c.args.threads.now (t - 1) t _ next c.loop-thread.invariant.0 ∙ ap (λ n. best_among c.args.plan.now c.args.made.now c.args.threads.now n) back,
      c.consider-best.ensures.number,
    )

pub returns-clause-best : goal.returns-clause-best
returns-clause-best c =
    let e : c.loop-thread.thread - 1 ≡ 64 = omega arith in
    c.loop-thread.invariant.0 ∙ ap (λ n. best_among c.args.plan.now c.args.made.now c.args.threads.now n) e
