use Rattle.ckrt_look_calls.proofs.AppendLemmas.{appends_more}
use Rattle.ckrt_look_calls.specs.Replays.{replay_of}
use Rattle.ckrt_look_races.specs.Inversions.{link_lines}
use Rattle.ckrt_look_races.proofs.cycles_again.write_links.Goals as goal

-- the lines of one more
pub loop-link-preserved : goal.loop-link-preserved
loop-link-preserved g c =
    let has = g.W.Write.contents in let before = c.loop-link.invariant in
    record {
      behind = c.in_ok-write_link.ensures.behind;
      written = appends_more (link_lines (replay_of c.args.source.now)) c.args.links.now c.loop-link.link-index _ (has c.args.out.now) (has c.loop-link.out) (has c.write_link.new.out) c.loop-link-test.true before.written c.in_ok-write_link.ensures.written;
    }
