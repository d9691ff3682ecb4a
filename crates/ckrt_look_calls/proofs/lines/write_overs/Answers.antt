use Rattle.ckrt_look_calls.specs.Lines.{over_line}
use Rattle.ckrt_look_calls.proofs.AppendLemmas.{appends_more}
use Rattle.ckrt_look_calls.proofs.lines.write_overs.Goals as goal

-- the line of one wait more
pub loop-waiting-preserved : goal.loop-waiting-preserved
loop-waiting-preserved g c =
    let has = g.W.Write.contents in
    let each = over_line c.args.place c.args.after.now in
    appends_more each c.args.before.now c.loop-waiting.waiting-index _ (has c.args.out.now) (has c.loop-waiting.out) (has c.write_over.new.out) c.loop-waiting-test.true c.loop-waiting.invariant c.in_ok-write_over.ensures
