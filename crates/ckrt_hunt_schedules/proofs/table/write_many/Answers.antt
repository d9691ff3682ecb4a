use Rattle.std.proofs.Common.{◌++◌, codes, decimal, subst}
use Rattle.std.proofs.lemmas.Result.{on_ok_weaker}
use Rattle.std.specs.Io.KnownBytes.{Appends}
use Rattle.std.specs.Prelude.{length}
use Rattle.ckrt_hunt_schedules.specs.Shown.{total_of}
use Rattle.ckrt_hunt_schedules.specs.Table.{runs_text}
use Rattle.ckrt_hunt_schedules.specs.declared.shown.Measure.TheVariants.{Outputs, Runs}
use Rattle.ckrt_hunt_schedules.proofs.AppendLemmas.{appends_both}
use Rattle.ckrt_hunt_schedules.proofs.table.write_many.Goals as goal

-- piece by piece
pub returns : goal.returns
returns g c =
    let has = g.W.Write.contents in
    let a = has c.args.out.now in
    let b = has c.write_counted.new.out in
    let d = has c.write_counted-2.new.out in
    let e = has c.write_runs.new.out in
    let z = has c.write_all.new.self in
    let rows = c.args.rows.now in
    let outputs = codes "outputs of exit 0: " ++ decimal (total_of Outputs rows (length rows)) in
    let counted = codes " in " ++ decimal (total_of Runs rows (length rows)) in
    let runs = runs_text c.args.asked.now in
    let first : Appends a b outputs = subst (λ n. Appends a b (codes "outputs of exit 0: " ++ decimal n)) c.total_of.ensures c.in_ok-write_counted.ensures in
    let second : Appends b d counted = subst (λ n. Appends b d (codes " in " ++ decimal n)) c.total_of-2.ensures c.in_ok-write_counted-2.ensures in
    on_ok_weaker c.write_all.result (λ last.
    appends_both a e z (outputs ++ counted ++ runs) (codes ", the three commonest above\n")
    (appends_both a d e (outputs ++ counted) runs (appends_both a b d outputs counted first second) c.in_ok-write_runs.ensures) last) c.write_all.ensures.bytes
