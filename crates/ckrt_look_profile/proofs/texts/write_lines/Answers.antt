use Rattle.ckrt_look_calls.proofs.AppendLemmas.{appends_more}
use Rattle.ckrt_look_profile.specs.Texts.{share_line}
use Rattle.ckrt_look_profile.proofs.texts.write_lines.Goals as goal

-- the line of one share more
pub loop-share-preserved : goal.loop-share-preserved
loop-share-preserved g c =
    let has = g.W.Write.contents in
    appends_more (share_line c.args.all) c.args.shares.now c.loop-share.share-index _ (has c.args.out.now) (has c.loop-share.out) (has c.write_line.new.out) c.loop-share-test.true c.loop-share.invariant c.in_ok-write_line.ensures
