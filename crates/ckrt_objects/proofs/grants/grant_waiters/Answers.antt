use Rattle.std.proofs.Common.{◌≡◌, ◌-◌, ◌+◌, suc, sym, ap, ◌∙◌, arith}
use Rattle.ckrt_thread.specs.Granting.{grant_up_to}
use Rattle.ckrt_objects.specs.Granting.{rule_of}
use Rattle.ckrt_objects.proofs.Granting.{step_up_to, taken_first}
use Rattle.ckrt_objects.proofs.grants.grant_waiters.Goals as goal

pub loop-preserved : goal.loop-preserved
loop-preserved g c =
    let rule = rule_of g.T.Grant.is_admissible g.T.Grant.granted c.args.object in
    let n = c.wait_count-end.result - (c.loop.counter + 1) in
    let more : c.wait_count-end.result - c.loop.counter ≡ suc n = omega arith in
    let first = sym c.first_waiter.ensures.first ∙ c.in-Some.is in
    let step = step_up_to rule n c.loop.value c.loop.threads c.in-Some.first first (sym c.admits.ensures ∙ c.if-not-admits.false) in
    let taken = taken_first c.args.object c.loop.threads c.in-Some.first c.in-Some-wake_first.waiter first c.in-Some-wake_first.ensures.first in
    record {
      left = rw (c.grant.ensures.granted, c.answer.ensures, c.result.ensures, c.wake_first.ensures.threads, taken) (sym step ∙ (ap (λ k. grant_up_to rule k c.loop.value c.loop.threads) (sym more) ∙ c.loop.invariant.left));
      proper = c.grant.ensures.proper;
    }
