use Rattle.std.proofs.Common.{◌++◌, ℕ, List, subst}
use Rattle.std.proofs.lemmas.Result.{on_ok_weaker}
use Rattle.std.specs.Io.KnownBytes.{Appends}
use Rattle.ckrt_look_timeline.specs.Charts.{begin_text, end_text, marks_text, rows_text}
use Rattle.ckrt_look_timeline.specs.Pieces.{tracks_of}
use Rattle.ckrt_look_calls.proofs.AppendLemmas.{appends_both}
use Rattle.ckrt_look_timeline.proofs.chart.write_chart.Goals as goal

pub returns : goal.returns
returns g c =
    let has = g.W.Write.contents in
    let f = c.args.form in
    let chart = c.args.chart.now in
    let a = has c.args.out.now in
    let b = has c.write_begin.new.out in
    let d = has c.write_marks.new.out in
    let e = has c.write_rows.new.out in
    let z = has c.write_all.new.self in
    let begin : List ℕ = begin_text f chart in
    let marks : List ℕ = marks_text f chart chart.first 0 c.args.begins.now in
    let rows : List ℕ = rows_text f chart 1 80 (tracks_of c.args.tracks.now) in
    let end : List ℕ = end_text f in
    on_ok_weaker c.write_all.result (λ last.
    appends_both a e z (begin ++ marks ++ rows) end
    (appends_both a d e (begin ++ marks) rows (appends_both a b d begin marks c.in_ok-write_begin.ensures c.in_ok-write_marks.ensures) c.in_ok-write_rows.ensures)
    (subst (λ (l : List ℕ). Appends e z l) c.end_of.ensures last)) c.write_all.ensures.bytes
