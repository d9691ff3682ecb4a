use Rattle.std.proofs.Common.{◌++◌, codes, decimal, subst}
use Rattle.std.proofs.lemmas.Result.{on_ok_weaker}
use Rattle.std.specs.Io.KnownBytes.{Appends}
use Rattle.ckrt_hunt_schedules.proofs.AppendLemmas.{appends_both}
use Rattle.ckrt_hunt_looks.proofs.table.write_none.Goals as goal

-- of as many as there are seeds
pub returns : goal.returns
returns g c =
    let has = g.W.Write.contents in
    let k = g.F.Notable.kind in
    let a = has c.args.out.now in
    let b = has c.write_counted.new.out in
    let z = has c.write_all.new.self in
    let named = subst (λ w. Appends a b (w ++ decimal c.count.result)) c.none.ensures c.in_ok-write_counted.ensures in
    let front = subst (λ n. Appends a b (k.none ++ decimal n)) c.count.ensures named in
    on_ok_weaker c.write_all.result (λ last.
    appends_both a b z _ (codes " runs; other schedules may have some\n") front last) c.write_all.ensures.bytes
