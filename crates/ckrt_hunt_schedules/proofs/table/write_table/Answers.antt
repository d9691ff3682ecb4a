use Rattle.std.proofs.Common.{◌++◌, length, subst}
use Rattle.std.proofs.lemmas.Result.{on_ok_weaker}
use Rattle.std.specs.Io.KnownBytes.{Appends}
use Rattle.ckrt_hunt_schedules.specs.Table.{others_line, outputs_line, rows_text}
use Rattle.ckrt_hunt_schedules.proofs.AppendLemmas.{appends_both}
use Rattle.ckrt_hunt_schedules.proofs.table.write_table.Goals as goal

-- the rows, the outputs, and what has no row
pub returns : goal.returns
returns g c =
    let has = g.W.Write.contents in
    let a = has c.args.out.now in
    let b = has c.write_rows.new.out in
    let d = has c.write_outputs.new.out in
    let z = has c.write_others.new.out in
    let asked = c.args.asked.now in
    let rows = c.args.outcomes.now.rows.items in
    let others = c.args.outcomes.now.others in
    let all = rows_text asked rows (length rows) in
    let first : Appends a b all = subst (λ rows. Appends a b (rows_text asked rows (length rows))) c.rows.ensures c.in_ok-write_rows.ensures in
    let second : Appends b d (outputs_line asked rows) = subst (λ rows. Appends b d (outputs_line asked rows)) c.rows-2.ensures c.in_ok-write_outputs.ensures in
    on_ok_weaker c.write_others.result (λ last.
    appends_both a d z (all ++ outputs_line asked rows) (others_line asked others) (appends_both a b d all (outputs_line asked rows) first second)
    (subst (λ n. Appends d z (others_line asked n)) c.others.ensures last)) c.write_others.ensures
