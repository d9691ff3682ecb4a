use Rattle.std.proofs.Common.{◌++◌, rules, codes, decimal}
use Rattle.std.proofs.lemmas.Result.{on_ok_weaker}
use Rattle.std.specs.Io.KnownBytes.{Appends}
use Rattle.ckrt_inspect.specs.Texts.{hex_text}
use Rattle.ckrt_look_calls.proofs.AppendLemmas.{appends_both}
use Rattle.ckrt_look_profile.proofs.callgrind.write_called.Goals as goal

-- piece by piece
pub returns : goal.returns
returns g c =
    let has = g.W.Write.contents in
    let a = has c.args.out.now in let b = has c.write_all.new.self in let d = has c.write_hex.new.out in
    let e = has c.write_counted.new.out in let f = has c.write_all-2.new.self in let z = has c.write_hex-2.new.out in
    let entry = hex_text c.args.row.now.entry in let calls = codes "\ncalls=" ++ decimal c.args.row.now.calls in
    let front : Appends a b (codes "\ncfn=") = search rules in
    let back : Appends e f (codes " 0x") = search rules in
    on_ok_weaker c.write_hex-2.result (λ last. appends_both a f z (codes "\ncfn=" ++ entry ++ calls ++ codes " 0x") entry
    (appends_both a e f (codes "\ncfn=" ++ entry ++ calls) (codes " 0x")
    (appends_both a d e (codes "\ncfn=" ++ entry) calls (appends_both a b d (codes "\ncfn=") entry front c.in_ok-write_hex.ensures) c.in_ok-write_counted.ensures) back) last) c.write_hex-2.ensures
