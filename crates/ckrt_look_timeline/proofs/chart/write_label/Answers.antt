use Rattle.std.proofs.Common.{◌≡◌, ◌∙◌, ℕ, Bool, true, List, [], if◌then◌else◌, sym, ap, subst}
use Rattle.std.proofs.lemmas.Result.{on_ok_weaker}
use Rattle.std.specs.Io.KnownBytes.{Appends}
use Rattle.ckrt_look_timeline.specs.Charts.{bottom, has_room, label_text, middle_of, number_text}
use Rattle.ckrt_look_timeline.proofs.chart.write_label.Goals as goal

pub returns : goal.returns
returns g c =
    let a = g.W.Write.contents c.args.out.now in
    let z = g.W.Write.contents c.write_number.new.out in
    let chart = c.args.chart.now in
    let k = c.args.event in
    let x = c.args.begin in
    let free = c.args.free in
    let room : has_room chart k x free ≡ true = sym c.has_room.ensures ∙ c.if-not-has_room.false in
    let text : number_text k c.middle_of.result c.bottom.result ≡ label_text chart k x free =
    ap (λ m. number_text k m c.bottom.result) c.middle_of.ensures.middle ∙ ap (λ y. number_text k (middle_of chart k x) y) c.bottom.ensures.place
    ∙ ap (λ (t : Bool). if t then number_text k (middle_of chart k x) (bottom chart) else []) (sym room) in
    on_ok_weaker c.write_number.result (λ written. subst (λ (l : List ℕ). Appends a z l) text written) c.write_number.ensures
