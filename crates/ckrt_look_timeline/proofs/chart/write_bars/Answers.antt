use Rattle.std.proofs.Common.{◌+◌, ◌∷◌, ℕ, List, [], subst}
use Rattle.std.specs.Prelude.{codes, decimal}
use Rattle.std.proofs.lemmas.Result.{on_ok_weaker}
use Rattle.std.specs.Io.KnownBytes.{Appends}
use Rattle.ckrt_look_timeline.specs.declared.page.Chart.{Chart}
use Rattle.ckrt_look_timeline.specs.Charts.{inner}
use Rattle.ckrt_look_timeline.specs.Parts.{joined}
use Rattle.ckrt_look_timeline.proofs.chart.write_bars.Goals as goal

-- where a row is so high
abbrev bars_with : Chart → (t y : ℕ) → (tall : List ℕ) → List ℕ
bars_with c t y tall = joined (
    codes "<text x=\"4\" y=\"" ∷ decimal (y + 13) ∷ codes "\">thread " ∷ decimal t ∷ codes "</text>\n<svg x=\"80\" y=\"" ∷ decimal y
    ∷ codes "\" width=\"" ∷ decimal (inner c) ∷ codes "\" height=\"16\" viewBox=\"0 0 " ∷ decimal c.steps
    ∷ tall ∷ codes "\" preserveAspectRatio=\"none\">\n" ∷ [])

pub returns : goal.returns
returns g c =
    let a = g.W.Write.contents c.args.out.now in
    let z = g.W.Write.contents c.write_parts.new.out in
    on_ok_weaker c.write_parts.result (λ written. subst (λ (tall : List ℕ). Appends a z (bars_with c.args.chart.now c.args.thread c.args.top tall)) c.tall_of.ensures written) c.write_parts.ensures
