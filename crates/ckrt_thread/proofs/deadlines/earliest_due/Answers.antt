use Rattle.std.proofs.Common.{sym, ◌∙◌}
use Rattle.ckrt_thread.proofs.DueWaits.{due_before}
use Rattle.ckrt_thread.proofs.deadlines.earliest_due.Goals as goal

pub loop-place-preserved-then-is_due : goal.loop-place-preserved-then-is_due
loop-place-preserved-then-is_due c =
    due_before c.args.waits.now c.loop-place.place c.args.now _ c.sooner_of.result c.loop-place.earliest c.loop-place-test.true c.loop-place.auto.place (sym c.is_due.ensures ∙ c.if-is_due.true) c.sooner_of.ensures c.loop-place.invariant
