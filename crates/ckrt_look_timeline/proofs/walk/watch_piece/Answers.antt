use Rattle.std.proofs.Common.{rules, ◌≡◌, ◌∙◌, ◌+◌, ◌++◌, get_or, replicate, ap}
use Rattle.ckrt_calls.specs.declared.table.Tables.{Tables}
use Rattle.ckrt_look_timeline.specs.declared.piece.Activity.{Activity}
use Rattle.ckrt_look_timeline.specs.declared.piece.Activity.TheVariants as activity
use Rattle.ckrt_look_timeline.specs.Activities.{activity_of}
use Rattle.ckrt_look_timeline.specs.Tracks.{track_in}
use Rattle.ckrt_look_timeline.proofs.walk.watch_piece.Goals as goal

pub returns : goal.returns
returns c =
    let s = c.args.machine.now.state in
    let h = c.args.hart in
    let made = c.go_alike-made.result in
    let noted = c.in_ok-note.ensures in
    let now = c.activities-now.result in
    let same : c.from.result ≡ made = search rules in
    record {
      alike = c.go_alike-made.ensures;
      goes_on = record {
        whole = noted.goes_on.whole;
        tracks = λ i less.
            let before = track_in c.args.timeline.now i in
            let is : get_or now i activity.Absent ≡ activity_of h (i + 1) s.tables.threads = c.activities-now.ensures i less ∙ ap (λ (z : Tables). activity_of h (i + 1) z.threads) c.tables.ensures.tables in
            noted.goes_on.tracks i less ∙ ap (λ k. before ++ replicate k (get_or now i activity.Absent)) same ∙ ap (λ (a : Activity). before ++ replicate made a) is;
      };
      steps = noted.steps ∙ ap (λ k. c.args.timeline.now.steps + k) same;
    }
