use Rattle.std.proofs.Common.{◌++◌, codes, decimal, subst, rules}
use Rattle.std.proofs.lemmas.Result.{on_ok_weaker}
use Rattle.std.specs.Io.KnownBytes.{Appends}
use Rattle.ckrt_hunt_schedules.specs.Table.{runs_text}
use Rattle.ckrt_hunt_schedules.proofs.AppendLemmas.{appends_both}
use Rattle.ckrt_hunt_looks.proofs.table.write_head.Goals as goal

-- piece by piece
pub returns : goal.returns
returns g c =
    let has = g.W.Write.contents in
    let k = g.F.Notable.kind in
    let row = c.args.row.now in
    let a = has c.args.out.now in
    let b = has c.write_counted.new.out in
    let d = has c.write_counted-2.new.out in
    let e = has c.write_runs.new.out in
    let f = has c.write_counted-3.new.out in
    let z = has c.write_all.new.self in
    let number = k.name ++ decimal c.args.number in
    let count = codes ": " ++ decimal row.count in
    let runs = runs_text c.args.asked.now in
    let first = codes ", first by seed " ++ decimal row.first in
    let named : Appends a b number = subst (λ w. Appends a b (w ++ decimal c.args.number)) c.name.ensures c.in_ok-write_counted.ensures in
    let third : Appends d e runs = search rules in
    on_ok_weaker c.write_all.result (λ last.
    appends_both a f z (number ++ count ++ runs ++ first) (codes ": ")
    (appends_both a e f (number ++ count ++ runs) first
    (appends_both a d e (number ++ count) runs
    (appends_both a b d number count named c.in_ok-write_counted-2.ensures) third) c.in_ok-write_counted-3.ensures) last) c.write_all.ensures.bytes
