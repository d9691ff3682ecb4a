use Rattle.ckrt_look_calls.proofs.AppendLemmas.{appends_more}
use Rattle.ckrt_look_calls.specs.Replays.{replay_of}
use Rattle.ckrt_look_heap.specs.Again.{finding_text}
use Rattle.ckrt_look_heap.proofs.again.write_each.Goals as goal

-- the lines of one error more
pub loop-finding-preserved : goal.loop-finding-preserved
loop-finding-preserved g c =
    let has = g.W.Write.contents in let before = c.loop-finding.invariant in
    record {
      behind = c.in_ok-write_one.ensures.behind;
      written = appends_more (finding_text (replay_of c.args.source.now)) c.args.findings.now c.loop-finding.finding-index _ (has c.args.out.now) (has c.loop-finding.out) (has c.write_one.new.out) c.loop-finding-test.true before.written c.in_ok-write_one.ensures.written;
    }
