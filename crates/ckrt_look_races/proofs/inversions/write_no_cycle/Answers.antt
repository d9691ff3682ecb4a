use Rattle.std.proofs.Common.{List, ℕ, subst}
use Rattle.std.proofs.lemmas.Result.{on_ok_weaker}
use Rattle.std.specs.Io.KnownBytes.{Appends}
use Rattle.ckrt_look_calls.proofs.AppendLemmas.{appends_both}
use Rattle.ckrt_look_races.specs.Inversions.{another, span_text}
use Rattle.ckrt_look_races.proofs.inversions.write_no_cycle.Goals as goal

-- where it was looked, and where there may be one
pub returns : goal.returns
returns g c =
    let has = g.W.Write.contents in
    let a = has c.args.out.now in let b = has c.write_span.new.out in let z = has c.write_all.new.self in
    on_ok_weaker c.write_all.result (λ last. appends_both a b z (span_text c.args.begin c.args.end) (another c.args.begin)
    c.in_ok-write_span.ensures (subst (λ (t : List ℕ). Appends b z t) c.another.ensures last)) c.write_all.ensures.bytes
