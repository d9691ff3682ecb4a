use Rattle.std.proofs.Common.{◌++◌, codes, decimal, sym, subst}
use Rattle.std.proofs.lemmas.Result.{on_ok_weaker}
use Rattle.std.specs.Io.KnownBytes.{Appends}
use Rattle.ckrt_look_calls.proofs.AppendLemmas.{appends_both}
use Rattle.ckrt_look_profile.proofs.CallgrindLemmas.{some_rest}
use Rattle.ckrt_look_profile.proofs.callgrind.write_rest.Goals as goal

-- a line where there are some
pub returns : goal.returns
returns g c =
    let has = g.W.Write.contents in
    let n = c.args.steps in
    let a = has c.args.out.now in let b = has c.write_counted.new.out in let z = has c.write_all.new.self in
    on_ok_weaker c.write_all.result (λ last. subst (λ l. Appends a z l) (sym (some_rest n c.if-steps-eq0.false))
    (appends_both a b z (codes "fn=others\n0x0 " ++ decimal n) (codes "\n") c.in_ok-write_counted.ensures last)) c.write_all.ensures.bytes
