use Rattle.std.proofs.Common.{◌++◌, codes, decimal, subst, rules}
use Rattle.std.proofs.lemmas.Result.{on_ok_weaker}
use Rattle.std.specs.Io.KnownBytes.{Appends}
use Rattle.ckrt_hunt_schedules.specs.Table.{runs_text}
use Rattle.ckrt_hunt_schedules.proofs.AppendLemmas.{appends_both}
use Rattle.ckrt_hunt_looks.proofs.table.write_known_others.Goals as goal

-- piece by piece
pub returns : goal.returns
returns g c =
    let has = g.W.Write.contents in
    let k = g.F.Notable.kind in
    let a = has c.args.out.now in
    let b = has c.write_counted.new.out in
    let d = has c.write_runs.new.out in
    let z = has c.write_all.new.self in
    let others = k.others ++ decimal c.args.rows.now.others in
    let runs = runs_text c.args.asked.now in
    let named : Appends a b (k.others ++ decimal c.others-2.result) = subst (λ w. Appends a b (w ++ decimal c.others-2.result)) c.others.ensures c.in_ok-write_counted.ensures in
    let first : Appends a b others = subst (λ n. Appends a b (k.others ++ decimal n)) c.others-2.ensures named in
    let second : Appends b d runs = search rules in
    on_ok_weaker c.write_all.result (λ last.
    appends_both a d z (others ++ runs) (codes "\n") (appends_both a b d others runs first second) last) c.write_all.ensures.bytes
