use Rattle.std.proofs.Common.{◌++◌, codes, decimal}
use Rattle.std.proofs.lemmas.Result.{on_ok_weaker}
use Rattle.ckrt_look_calls.proofs.AppendLemmas.{appends_both}
use Rattle.ckrt_look_profile.specs.Callgrind.{HEADER}
use Rattle.ckrt_look_profile.proofs.callgrind.write_start.Goals as goal

-- piece by piece
pub returns : goal.returns
returns g c =
    let has = g.W.Write.contents in
    let a = has c.args.out.now in let b = has c.write_all.new.self in let d = has c.write_number.new.out in let z = has c.write_all-2.new.self in
    on_ok_weaker c.write_all-2.result (λ last. appends_both a d z (HEADER ++ decimal c.args.all) (codes "\n\nfl=???\n")
    (appends_both a b d HEADER (decimal c.args.all) c.in_ok-write_all.ensures.bytes c.in_ok-write_number.ensures) last) c.write_all-2.ensures.bytes
