use Rattle.ckrt_hunt_schedules.specs.Table.{waiting_text}
use Rattle.ckrt_hunt_schedules.proofs.AppendLemmas.{appends_more}
use Rattle.ckrt_hunt_schedules.proofs.texts.write_waitings.Goals as goal

-- one wait more
pub loop-waiting-preserved : goal.loop-waiting-preserved
loop-waiting-preserved g c =
    let has = g.W.Write.contents in
    appends_more waiting_text c.args.waitings.now c.loop-waiting.waiting-index _ (has c.args.out.now) (has c.loop-waiting.out) (has c.write_waiting.new.out) c.loop-waiting-test.true c.loop-waiting.invariant c.in_ok-write_waiting.ensures
