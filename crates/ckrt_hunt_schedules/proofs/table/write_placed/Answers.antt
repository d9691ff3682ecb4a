use Rattle.std.proofs.Common.{◌++◌, codes, decimal, subst}
use Rattle.std.proofs.lemmas.Result.{on_ok_weaker}
use Rattle.std.specs.Io.KnownBytes.{Appends}
use Rattle.ckrt_hunt_schedules.proofs.AppendLemmas.{appends_both}
use Rattle.ckrt_hunt_schedules.proofs.table.write_placed.Goals as goal

-- piece by piece
pub returns : goal.returns
returns g c =
    let has = g.W.Write.contents in
    let a = has c.args.out.now in
    let b = has c.write_counted.new.out in
    let d = has c.write_all.new.self in
    let z = has c.write_all-2.new.self in
    let seed = c.args.word.now ++ decimal c.args.seed in
    let on = codes " on " in
    on_ok_weaker c.write_all-2.result (λ last.
    appends_both a d z (seed ++ on) c.args.path.now
    (appends_both a b d seed on c.in_ok-write_counted.ensures c.in_ok-write_all.ensures.bytes)
    (subst (λ text. Appends d z text) c.as_bytes.ensures.value last)) c.write_all-2.ensures.bytes
