use Rattle.std.proofs.Common.{arith}
use Rattle.ckrt_look_profile.specs.Callgrind.{rows_text}
use Rattle.ckrt_look_profile.proofs.CallgrindLemmas.{completes_row, completes_rows}
use Rattle.ckrt_look_profile.proofs.callgrind.write_rows.Goals as goal

-- one row more
pub loop-row-preserved : goal.loop-row-preserved
loop-row-preserved g c =
    let has = g.W.Write.contents in let rows = c.args.rows.now in
    record {
      place = omega (arith, c.loop-row.invariant.place);
      text = completes_row rows c.loop-row.place c.loop-row.row-index _ (has c.args.out.now) (has c.loop-row.out) (has c.write_row.new.out) (rows_text rows 0 rows) c.loop-row-test.true
          c.loop-row.invariant.text c.in_ok-write_row.ensures;
    }

pub returns : goal.returns
returns g c =
    let has = g.W.Write.contents in let rows = c.args.rows.now in
    completes_rows rows c.loop-row.place c.loop-row.row-index (has c.args.out.now) (has c.loop-row.out) (rows_text rows 0 rows) c.loop-row-test.false c.loop-row.invariant.text
