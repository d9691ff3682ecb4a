use Rattle.std.proofs.Common.{◌++◌, List, ℕ, codes, subst}
use Rattle.std.proofs.lemmas.Result.{on_ok_weaker}
use Rattle.std.specs.Io.KnownBytes.{Appends}
use Rattle.ckrt_look_calls.proofs.AppendLemmas.{appends_both}
use Rattle.ckrt_look_calls.specs.Rows.{stretch_text}
use Rattle.ckrt_look_races.specs.Texts.{elsewhere}
use Rattle.ckrt_look_races.proofs.texts.write_none.Goals as goal

-- piece by piece
pub returns : goal.returns
returns g c =
    let has = g.W.Write.contents in
    let a = has c.args.out.now in let b = has c.write_stretch.new.out in let d = has c.write_all.new.self in let z = has c.write_all-2.new.self in
    let here = stretch_text (codes "no races in events ") c.args.begin c.args.end in let more = elsewhere c.args.begin in
    let middle : Appends b d (codes " of this schedule; ") = c.in_ok-write_all.ensures.bytes in
    on_ok_weaker c.write_all-2.result (λ last. appends_both a d z (here ++ codes " of this schedule; ") more
    (appends_both a b d here (codes " of this schedule; ") c.in_ok-write_stretch.ensures middle) (subst (λ (t : List ℕ). Appends d z t) c.elsewhere.ensures last)) c.write_all-2.ensures.bytes
