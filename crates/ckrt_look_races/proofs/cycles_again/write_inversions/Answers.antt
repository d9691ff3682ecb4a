use Rattle.ckrt_look_calls.proofs.AppendLemmas.{appends_more}
use Rattle.ckrt_look_calls.specs.Replays.{replay_of}
use Rattle.ckrt_look_races.specs.Inversions.{inversion_text}
use Rattle.ckrt_look_races.proofs.cycles_again.write_inversions.Goals as goal

-- the lines of one more
pub loop-inversion-preserved : goal.loop-inversion-preserved
loop-inversion-preserved g c =
    let has = g.W.Write.contents in let before = c.loop-inversion.invariant in
    record {
      behind = c.in_ok-write_inversion.ensures.behind;
      written = appends_more (inversion_text (replay_of c.args.source.now)) c.args.inversions.now c.loop-inversion.inversion-index _ (has c.args.out.now) (has c.loop-inversion.out) (has c.write_inversion.new.out) c.loop-inversion-test.true before.written c.in_ok-write_inversion.ensures.written;
    }
