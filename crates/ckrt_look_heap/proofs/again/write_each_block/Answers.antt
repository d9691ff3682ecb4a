use Rattle.ckrt_look_calls.proofs.AppendLemmas.{appends_more}
use Rattle.ckrt_look_calls.specs.Replays.{replay_of}
use Rattle.ckrt_look_heap.specs.Again.{left_text}
use Rattle.ckrt_look_heap.proofs.again.write_each_block.Goals as goal

-- the lines of one block more
pub loop-block-preserved : goal.loop-block-preserved
loop-block-preserved g c =
    let has = g.W.Write.contents in let before = c.loop-block.invariant in
    record {
      behind = c.in_ok-write_taken.ensures.behind;
      written = appends_more (left_text (replay_of c.args.source.now)) c.args.blocks.now c.loop-block.block-index _ (has c.args.out.now) (has c.loop-block.out) (has c.write_taken.new.out) c.loop-block-test.true before.written c.in_ok-write_taken.ensures.written;
    }
