use Rattle.std.proofs.Common.{◌+◌, ◌≡◌, ◌∙◌, Some, ap, arith, sym}
use Rattle.std.specs.Prelude.{slice_get}
use Rattle.std.proofs.lemmas.Option.{slice_get-get_or}
use Rattle.ckrt_hunt_schedules.proofs.AppendLemmas.{no_rows, rows_more}
use Rattle.ckrt_hunt_schedules.proofs.table.write_rows.Goals as goal

pub loop-place-init : goal.loop-place-init
loop-place-init g c = no_rows c.args.asked.now c.args.rows.now (g.W.Write.contents c.args.out.now)

-- one row more
pub loop-place-preserved : goal.loop-place-preserved
loop-place-preserved g c =
    let has = g.W.Write.contents in
    let rows = c.args.rows.now in
    let n = c.loop-place.place in
    let r = c.index-rows-place.result in
    let there : slice_get rows n ≡ Some r = slice_get-get_or rows n r c.loop-place-test.true ∙ ap Some (sym c.index-rows-place.is) in
    rows_more c.args.asked.now rows n (n + 1) r (has c.args.out.now) (has c.loop-place.out) (has c.write_if_shown.new.out) (omega arith) there c.loop-place.invariant c.in_ok-write_if_shown.ensures
