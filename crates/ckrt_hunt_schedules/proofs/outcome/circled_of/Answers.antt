use Rattle.std.proofs.Common.{◌≡◌, ◌∙◌, ◌+◌, ◌-◌, suc, ap, sym, arith}
use Rattle.ckrt_hunt_schedules.specs.Outcomes.{circled_among}
use Rattle.ckrt_hunt_schedules.proofs.CircleLemmas.{circled_on, none_circled}
use Rattle.ckrt_hunt_schedules.proofs.outcome.circled_of.Goals as goal

pub loop-thread-init : goal.loop-thread-init
loop-thread-init c = (c.new-waiting.ensures ∙ sym (none_circled c.args.tables.now), grind (arith, c.new-waiting.ensures))

pub loop-thread-preserved : goal.loop-thread-preserved
loop-thread-preserved c =
    let t = c.loop-thread.thread in
    let next : t ≡ suc (t - 1) = omega arith in
    let back : t ≡ t + 1 - 1 = omega arith in (
      c.push_circled.ensures.items ∙ circled_on c.args.tables.now (t - 1) t _ next c.loop-thread.invariant.0 ∙ ap (λ n. circled_among c.args.tables.now n) back,
      omega (arith, c.push_circled.ensures.few, c.loop-thread.invariant.1),
    )

pub returns : goal.returns
returns c =
    let e : c.loop-thread.thread - 1 ≡ 64 = omega arith in
    c.loop-thread.invariant.0 ∙ ap (λ n. circled_among c.args.tables.now n) e
