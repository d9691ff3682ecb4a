use Rattle.std.proofs.Common.{◌++◌, rules, codes}
use Rattle.std.proofs.lemmas.Result.{on_ok_weaker}
use Rattle.std.specs.Io.KnownBytes.{Appends}
use Rattle.ckrt_look_calls.proofs.AppendLemmas.{appends_both}
use Rattle.ckrt_look_calls.specs.Rows.{times_text}
use Rattle.ckrt_look_races.specs.Texts.{both_text}
use Rattle.ckrt_look_races.proofs.texts.write_pair.Goals as goal

-- piece by piece
pub returns : goal.returns
returns g c =
    let has = g.W.Write.contents in
    let a = has c.args.out.now in let b = has c.write_both.new.out in let d = has c.write_all.new.self in let e = has c.write_times.new.out in let z = has c.write_all-2.new.self in
    let both = both_text c.args.pair.now in let times = times_text c.args.pair.now.count in
    let comma : Appends b d (codes ", ") = search rules in
    on_ok_weaker c.write_all-2.result (λ last. appends_both a e z (both ++ codes ", " ++ times) (codes "\n")
    (appends_both a d e (both ++ codes ", ") times (appends_both a b d both (codes ", ") c.in_ok-write_both.ensures comma) c.in_ok-write_times.ensures) last) c.write_all-2.ensures.bytes
