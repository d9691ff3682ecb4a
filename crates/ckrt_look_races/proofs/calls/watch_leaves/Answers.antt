use Rattle.ckrt_look_races.specs.Orders.{leaves}
use Rattle.ckrt_look_races.proofs.BehindLemmas.{behind_each, behind_on}
use Rattle.std.proofs.Common.{◌∙◌}
use Rattle.ckrt_look_races.proofs.calls.watch_leaves.Goals as goal

pub loop-wait-preserved : goal.loop-wait-preserved
loop-wait-preserved c =
    behind_on (leaves c.args.place c.args.thread c.args.barrier) c.args.waits.now c.loop-wait.wait-index _ c.args.detector.now c.loop-wait.detector c.watch_leave.new.detector c.loop-wait-test.true
    c.loop-wait.invariant c.watch_leave.ensures

pub returns : goal.returns
returns c = c.loop-wait.invariant ∙ behind_each (leaves c.args.place c.args.thread c.args.barrier) c.args.waits.now c.loop-wait.wait-index c.args.detector.now c.loop-wait-test.false
