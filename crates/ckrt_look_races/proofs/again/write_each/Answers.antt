use Rattle.ckrt_look_calls.proofs.AppendLemmas.{appends_more}
use Rattle.ckrt_look_calls.specs.Replays.{replay_of}
use Rattle.ckrt_look_races.specs.Again.{race_text}
use Rattle.ckrt_look_races.proofs.again.write_each.Goals as goal

-- the lines of one race more
pub loop-pair-preserved : goal.loop-pair-preserved
loop-pair-preserved g c =
    let has = g.W.Write.contents in let before = c.loop-pair.invariant in
    record {
      behind = c.in_ok-write_race.ensures.behind;
      written = appends_more (race_text (replay_of c.args.source.now)) c.args.pairs.now c.loop-pair.pair-index _ (has c.args.out.now) (has c.loop-pair.out) (has c.write_race.new.out) c.loop-pair-test.true before.written c.in_ok-write_race.ensures.written;
    }
