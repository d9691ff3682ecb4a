use Rattle.std.proofs.Common.{◌≡◌, ◌∙◌, ℕ, Bool, true, List, [], if◌then◌else◌, sym, ap, subst}
use Rattle.std.proofs.lemmas.Result.{on_ok_weaker}
use Rattle.std.specs.Io.KnownBytes.{Appends}
use Rattle.ckrt_look_timeline.specs.declared.words.Form.{Form}
use Rattle.ckrt_look_timeline.specs.Charts.{is_told, mark_text, tick_text}
use Rattle.ckrt_look_timeline.proofs.chart.write_mark.Goals as goal

pub returns-in-Picture : goal.returns-in-Picture
returns-in-Picture g c =
    let a = g.W.Write.contents c.args.out.now in
    let z = g.W.Write.contents c.write_tick.new.out in
    let chart = c.args.chart.now in
    let k = c.args.event in
    let x = c.args.begin in
    let free = c.args.free in
    let told : is_told chart k ≡ true = sym c.is_told.ensures ∙ c.if-is_told.true in
    let text : tick_text chart k x free ≡ mark_text c.args.form chart k x free =
    ap (λ (t : Bool). if t then tick_text chart k x free else []) (sym told) ∙ ap (λ (f : Form). mark_text f chart k x free) (sym c.in-Picture.is) in
    on_ok_weaker c.write_tick.result (λ written. subst (λ (l : List ℕ). Appends a z l) text written) c.write_tick.ensures
