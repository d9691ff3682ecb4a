use Rattle.ckrt_look_calls.proofs.AppendLemmas.{appends_more}
use Rattle.ckrt_look_races.specs.Moments.{mutex_line}
use Rattle.ckrt_look_races.proofs.held.write_mutexes.Goals as goal

-- the line of one more
pub loop-entry-preserved : goal.loop-entry-preserved
loop-entry-preserved g c =
    let has = g.W.Write.contents in
    appends_more (mutex_line c.args.moment.now) c.args.entries.now c.loop-entry.entry-index _ (has c.args.out.now) (has c.loop-entry.out) (has c.write_mutex.new.out) c.loop-entry-test.true c.loop-entry.invariant c.in_ok-write_mutex.ensures
