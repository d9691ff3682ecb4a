use Rattle.std.proofs.Common.{◌≡◌, ◌∙◌, ◌++◌, ℕ, List, codes, ap, subst}
use Rattle.std.proofs.lemmas.Result.{on_ok_weaker}
use Rattle.std.specs.Io.KnownBytes.{Appends}
use Rattle.ckrt_look_calls.proofs.AppendLemmas.{appends_both}
use Rattle.ckrt_look_timeline.specs.Charts.{bottom, label_text, line_text, place_of}
use Rattle.ckrt_look_timeline.proofs.chart.write_tick.Goals as goal

-- the line, the number, and the end of the line of text
pub returns : goal.returns
returns g c =
    let has = g.W.Write.contents in
    let chart = c.args.chart.now in
    let x = c.args.begin in
    let a = has c.args.out.now in
    let b = has c.write_line.new.out in
    let d = has c.write_label.new.out in
    let z = has c.write_all.new.self in
    let label : List ℕ = label_text chart c.args.event x c.args.free in
    let line : line_text c.place_of.result c.bottom.result ≡ line_text (place_of chart x) (bottom chart) =
    ap (λ p. line_text p c.bottom.result) c.place_of.ensures ∙ ap (λ y. line_text (place_of chart x) y) c.bottom.ensures.place in
    on_ok_weaker c.write_all.result (λ last.
    appends_both a b z (line_text (place_of chart x) (bottom chart)) (label ++ codes "\n") (subst (λ (l : List ℕ). Appends a b l) line c.in_ok-write_line.ensures)
    (appends_both b d z label (codes "\n") c.in_ok-write_label.ensures last)) c.write_all.ensures.bytes
