use Rattle.std.proofs.Common.{rules, ◌≡◌, ◌∙◌, ◌++◌, ℕ, List, length, refl, sym, ap, subst, arith}
use Rattle.std.specs.Global.{Vec}
use Rattle.std.proofs.lemmas.Result.{on_ok_weaker}
use Rattle.ckrt_look_timeline.specs.declared.piece.Piece.{Piece}
use Rattle.ckrt_look_timeline.specs.Charts.{rows_in}
use Rattle.ckrt_look_timeline.specs.Pieces.{tracks_of}
use Rattle.ckrt_look_timeline.specs.Shares.{drawn_in, span_of}
use Rattle.ckrt_look_timeline.specs.Tracks.{AreUpTo, begins_of, in_events}
use Rattle.ckrt_look_timeline.proofs.DrawLemmas.{drawn, steps_are, tracks_are}
use Rattle.ckrt_look_timeline.proofs.EventLemmas.{begins_each, begins_within}
use Rattle.ckrt_look_timeline.proofs.recorded.write_timeline.Goals as goal

pub write_tracks-requires-clause-events : goal.write_tracks-requires-clause-events
write_tracks-requires-clause-events g c =
    let es = c.args.events.now in let s = c.args.machine.now.state in
    let is : c.as_slice.result.now ≡ begins_of 0 es s =
    c.as_slice.ensures.value ∙ c.in_ok-watch_events.ensures.begins ∙ ap (λ (l : List ℕ). l ++ begins_of 0 es s) c.new-begins.ensures.items in
    let same : length c.as_slice.result.now ≡ length es = ap (λ (l : List ℕ). length l) is ∙ begins_each 0 es s in
    omega (arith, same)

pub write_tracks-requires-clause-begins : goal.write_tracks-requires-clause-begins
write_tracks-requires-clause-begins g c =
    let es = c.args.events.now in let s = c.args.machine.now.state in
    let z = c.watch_events.new.timeline in
    let is : c.as_slice.result.now ≡ begins_of 0 es s =
    c.as_slice.ensures.value ∙ c.in_ok-watch_events.ensures.begins ∙ ap (λ (l : List ℕ). l ++ begins_of 0 es s) c.new-begins.ensures.items in
    let steps : z.steps ≡ length (in_events 1 es s) = steps_are es s c.in-Ok.timeline z c.in-Ok.ensures.empty c.in_ok-watch_events.ensures.goes_on in
    subst (λ (l : List ℕ). AreUpTo z.steps l) (sym is) (begins_within 0 z.steps es s (omega (arith, steps)))

pub returns-clause-draws : goal.returns-clause-draws
returns-clause-draws g c =
    let es = c.args.events.now in let s = c.args.machine.now.state in
    let z = c.watch_events.new.timeline in
    let begun = c.in-Ok.timeline in
    let empty = c.in-Ok.ensures.empty in
    let on = c.in_ok-watch_events.ensures.goes_on in
    let is : c.as_slice.result.now ≡ begins_of 0 es s =
    c.as_slice.ensures.value ∙ c.in_ok-watch_events.ensures.begins ∙ ap (λ (l : List ℕ). l ++ begins_of 0 es s) c.new-begins.ensures.items in
    let a = g.W.Write.contents c.args.out.now in let b = g.W.Write.contents c.write_tracks.new.out in
    let wide : c.from.result ≡ c.args.style.width = search rules in
    let tracks = tracks_of z.tracks.items in
    on_ok_weaker c.write_tracks.result (λ written.
    drawn c.args.style c.args.count es s tracks _ c.as_slice.result.now a b (tracks_are es s begun z empty on) is written (record {
      width = wide;
      first = refl;
      events = refl;
      steps = steps_are es s begun z empty on;
      rows = c.rows_in-rows.ensures.rows ∙ ap (λ (vs : List (Vec Piece)). rows_in (tracks_of vs)) c.as_slice-tracks.ensures.value;
      span = c.span_of-span.ensures ∙ ap (λ (vs : List (Vec Piece)). span_of c.args.style.form (drawn_in (tracks_of vs)) c.rows_in-rows.result z.steps) c.as_slice-tracks.ensures.value;
    })) c.write_tracks.ensures.written
