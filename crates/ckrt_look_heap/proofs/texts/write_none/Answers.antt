use Rattle.std.proofs.Common.{List, ℕ, codes, subst}
use Rattle.std.proofs.lemmas.Result.{on_ok_weaker}
use Rattle.std.specs.Io.KnownBytes.{Appends}
use Rattle.ckrt_look_calls.proofs.AppendLemmas.{appends_both}
use Rattle.ckrt_look_calls.specs.Rows.{stretch_text}
use Rattle.ckrt_look_heap.specs.Texts.{elsewhere}
use Rattle.ckrt_look_heap.proofs.texts.write_none.Goals as goal

-- piece by piece
pub returns : goal.returns
returns g c =
    let has = g.W.Write.contents in
    let a = has c.args.out.now in let b = has c.write_stretch.new.out in let z = has c.write_all.new.self in
    on_ok_weaker c.write_all.result (λ last. appends_both a b z (stretch_text (codes "no errors of memory in events ") c.args.begin c.args.end) (elsewhere c.args.begin) c.in_ok-write_stretch.ensures
    (subst (λ (t : List ℕ). Appends b z t) c.elsewhere.ensures last)) c.write_all.ensures.bytes
