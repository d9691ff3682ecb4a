use Rattle.std.proofs.Common.{◌++◌, rules, codes}
use Rattle.std.proofs.lemmas.Result.{on_ok_weaker}
use Rattle.std.specs.Io.KnownBytes.{Appends}
use Rattle.ckrt_look_calls.proofs.AppendLemmas.{appends_both}
use Rattle.ckrt_look_calls.specs.Rows.{times_text}
use Rattle.ckrt_look_calls.proofs.rows.write_others.Goals as goal

-- piece by piece
pub returns : goal.returns
returns g c =
    let has = g.W.Write.contents in
    let a = has c.args.out.now in let b = has c.write_all.new.self in let d = has c.write_times.new.out in let z = has c.write_all-2.new.self in
    let times = times_text c.args.others in
    let front : Appends a b (codes "and ") = search rules in
    on_ok_weaker c.write_all-2.result (λ last. appends_both a d z (codes "and " ++ times) (codes " at other places\n")
    (appends_both a b d (codes "and ") times front c.in_ok-write_times.ensures) last) c.write_all-2.ensures.bytes
