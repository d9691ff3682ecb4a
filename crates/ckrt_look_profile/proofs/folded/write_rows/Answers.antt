use Rattle.ckrt_look_calls.proofs.AppendLemmas.{appends_more}
use Rattle.ckrt_look_profile.specs.Texts.{row_line}
use Rattle.ckrt_look_profile.proofs.folded.write_rows.Goals as goal

-- the line of one row more
pub loop-row-preserved : goal.loop-row-preserved
loop-row-preserved g c =
    let has = g.W.Write.contents in
    appends_more (row_line c.args.rows.now) c.args.rows.now c.loop-row.row-index _ (has c.args.out.now) (has c.loop-row.out) (has c.write_row.new.out) c.loop-row-test.true c.loop-row.invariant c.in_ok-write_row.ensures
