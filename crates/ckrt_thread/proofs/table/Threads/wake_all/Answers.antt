use Rattle.std.proofs.Common.{◌∙◌, sym}
use Rattle.ckrt_thread.proofs.Waking.{fewer_left, first_woken}
use Rattle.ckrt_thread.proofs.table.Threads.wake_all.Goals as goal

pub loop-waiter-smaller : goal.loop-waiter-smaller
loop-waiter-smaller c = rw (c.set_result.ensures, c.wake_first.ensures.threads) (fewer_left c.args.object c.args.value c.in-Some.waiter c.loop-waiter.self c.in-Some.ensures.first)

pub loop-waiter-preserved : goal.loop-waiter-preserved
loop-waiter-preserved c = record {
  left = rw (c.set_result.ensures, c.wake_first.ensures.threads) (sym (first_woken c.args.object c.args.value c.in-Some.waiter c.loop-waiter.self c.in-Some.ensures.first c.loop-waiter.invariant.well_formed) ∙ c.loop-waiter.invariant.left);
  well_formed = c.known-in-Some.ensures;
}
