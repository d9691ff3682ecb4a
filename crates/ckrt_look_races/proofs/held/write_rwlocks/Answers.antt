use Rattle.ckrt_look_calls.proofs.AppendLemmas.{appends_more}
use Rattle.ckrt_look_races.specs.Moments.{rwlock_line}
use Rattle.ckrt_look_races.proofs.held.write_rwlocks.Goals as goal

-- the line of one more
pub loop-entry-preserved : goal.loop-entry-preserved
loop-entry-preserved g c =
    let has = g.W.Write.contents in
    appends_more (rwlock_line c.args.moment.now) c.args.entries.now c.loop-entry.entry-index _ (has c.args.out.now) (has c.loop-entry.out) (has c.write_rwlock.new.out) c.loop-entry-test.true c.loop-entry.invariant c.in_ok-write_rwlock.ensures
