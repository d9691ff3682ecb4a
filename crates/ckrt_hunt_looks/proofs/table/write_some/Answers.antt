use Rattle.std.proofs.Common.{length, subst}
use Rattle.std.proofs.lemmas.Result.{on_ok_weaker}
use Rattle.std.specs.Io.KnownBytes.{Appends}
use Rattle.ckrt_hunt_schedules.proofs.AppendLemmas.{appends_both}
use Rattle.ckrt_hunt_looks.specs.FoundTable.{others_line, rows_text}
use Rattle.ckrt_hunt_looks.proofs.table.write_some.Goals as goal

-- the rows, and what has none
pub returns : goal.returns
returns g c =
    let has = g.W.Write.contents in
    let k = g.F.Notable.kind in
    let a = has c.args.out.now in
    let b = has c.write_rows.new.out in
    let z = has c.write_others.new.out in
    let asked = c.args.asked.now in
    let rows = c.args.rows.now.rows.items in
    let first : Appends a b (rows_text k asked rows (length rows)) = subst (λ rows. Appends a b (rows_text k asked rows (length rows))) c.rows.ensures c.in_ok-write_rows.ensures in
    on_ok_weaker c.write_others.result (λ last.
    appends_both a b z (rows_text k asked rows (length rows)) (others_line k asked c.args.rows.now.others) first last) c.write_others.ensures
