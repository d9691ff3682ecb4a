use Rattle.ckrt_look_calls.proofs.AppendLemmas.{appends_more}
use Rattle.ckrt_look_races.specs.Inversions.{link_piece}
use Rattle.ckrt_look_races.proofs.inversions.write_link_pieces.Goals as goal

-- one more
pub loop-link-preserved : goal.loop-link-preserved
loop-link-preserved g c =
    let has = g.W.Write.contents in
    appends_more link_piece c.args.links.now c.loop-link.link-index _ (has c.args.out.now) (has c.loop-link.out) (has c.write_link_piece.new.out) c.loop-link-test.true c.loop-link.invariant c.in_ok-write_link_piece.ensures
