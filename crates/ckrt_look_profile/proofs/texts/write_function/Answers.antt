use Rattle.std.proofs.Common.{◌++◌, rules, codes, decimal}
use Rattle.std.proofs.lemmas.Result.{on_ok_weaker}
use Rattle.std.specs.Io.KnownBytes.{Appends}
use Rattle.ckrt_inspect.specs.Texts.{hex_text}
use Rattle.ckrt_look_calls.proofs.AppendLemmas.{appends_both}
use Rattle.ckrt_look_profile.proofs.texts.write_function.Goals as goal

-- piece by piece
pub returns : goal.returns
returns g c =
    let has = g.W.Write.contents in
    let a = has c.args.out.now in let b = has c.write_all.new.self in let d = has c.write_hex.new.out in let z = has c.write_counted.new.out in
    let entry = hex_text c.args.entry in let calls = codes ", calls " ++ decimal c.args.calls in
    let front : Appends a b (codes "pc ") = search rules in
    on_ok_weaker c.write_counted.result (λ last. appends_both a d z (codes "pc " ++ entry) calls (appends_both a b d (codes "pc ") entry front c.in_ok-write_hex.ensures) last) c.write_counted.ensures
