use Rattle.std.proofs.Common.{◌++◌, ℕ, codes, decimal, subst}
use Rattle.std.proofs.lemmas.Result.{on_ok_weaker}
use Rattle.std.specs.Io.KnownBytes.{Appends}
use Rattle.ckrt_look_calls.proofs.AppendLemmas.{appends_both}
use Rattle.ckrt_look_calls.specs.Moments.{position_text}
use Rattle.ckrt_look_calls.proofs.moment.write_by.Goals as goal

-- piece by piece
pub returns : goal.returns
returns g c =
    let has = g.W.Write.contents in let m = c.args.moment.now in
    let a = has c.args.out.now in let b = has c.write_position.new.out in let z = has c.write_counted.new.out in
    on_ok_weaker c.write_counted.result (λ last. appends_both a b z (position_text c.args.word.now m.place) (codes " by thread " ++ decimal m.thread) c.in_ok-write_position.ensures
    (subst (λ (n : ℕ). Appends b z (codes " by thread " ++ decimal n)) c.from.ensures last)) c.write_counted.ensures
