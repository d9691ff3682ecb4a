use Rattle.std.proofs.Common.{◌∙◌}
use Rattle.ckrt_look_races.specs.Orders.{of_request}
use Rattle.ckrt_look_races.proofs.BehindLemmas.{behind_each, behind_on}
use Rattle.ckrt_look_races.proofs.orders.watch_requests.Goals as goal

pub loop-wait-preserved : goal.loop-wait-preserved
loop-wait-preserved c =
    behind_on (of_request c.args.place c.args.after.now) c.args.before.now c.loop-wait.wait-index _ c.args.detector.now c.loop-wait.detector c.watch_request.new.detector c.loop-wait-test.true
    c.loop-wait.invariant c.watch_request.ensures

pub returns : goal.returns
returns c = c.loop-wait.invariant ∙ behind_each (of_request c.args.place c.args.after.now) c.args.before.now c.loop-wait.wait-index c.args.detector.now c.loop-wait-test.false
