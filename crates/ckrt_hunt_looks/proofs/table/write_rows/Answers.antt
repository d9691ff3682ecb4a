use Rattle.std.proofs.Common.{◌≡◌, ◌+◌, Some, refl, arith}
use Rattle.std.specs.Prelude.{slice_get}
use Rattle.ckrt_hunt_looks.proofs.RowLemmas.{read_at}
use Rattle.ckrt_hunt_looks.proofs.TableLemmas.{no_rows, rows_more}
use Rattle.ckrt_hunt_looks.proofs.table.write_rows.Goals as goal

pub loop-place-init : goal.loop-place-init
loop-place-init g c = no_rows g.F.Notable.kind c.args.asked.now c.args.rows.now (g.W.Write.contents c.args.out.now)

-- one row more
pub loop-place-preserved : goal.loop-place-preserved
loop-place-preserved g c =
    let has = g.W.Write.contents in
    let rows = c.args.rows.now in
    let n = c.loop-place.place in
    let row = c.index-rows-place.result in
    let there : slice_get rows n ≡ Some row = read_at rows rows n row refl c.index-rows-place.is c.loop-place-test.true in
    rows_more g.F.Notable.kind c.args.asked.now rows n (n + 1) row (has c.args.out.now) (has c.loop-place.out) (has c.write_row.new.out) (omega arith) there c.loop-place.invariant c.in_ok-write_row.ensures
