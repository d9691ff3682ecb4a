-- What a timeline that has gone through events says of them.
use Rattle.std.proofs.Common.{◌≡◌, ◌∙◌, ◌+◌, ℕ, List, [], ◌++◌, length, Option, sym, ap, arith}
use Rattle.std.specs.Global.{Vec}
use Rattle.std.specs.Io.KnownBytes.{Appends}
use Rattle.std.proofs.lemmas.List.{length-map}
use Rattle.ckrt_events.specs.declared.event.Event.{Event}
use Rattle.ckrt_machine.specs.Steps.{State}
use Rattle.ckrt_look_calls.specs.Stretches.{Writes}
use Rattle.ckrt_look_timeline.specs.declared.piece.Piece.{Piece}
use Rattle.ckrt_look_timeline.specs.declared.timeline.Timeline.{Timeline}
use Rattle.ckrt_look_timeline.specs.declared.recorded.Style.{Style}
use Rattle.ckrt_look_timeline.specs.declared.page.Chart.{Chart}
use Rattle.ckrt_look_timeline.specs.Charts.{chart_text}
use Rattle.ckrt_look_timeline.specs.Recorded.{AreTracks, IsChartOf, IsDrawing}
use Rattle.ckrt_look_timeline.specs.Pieces.{tracks_of}
use Rattle.ckrt_look_timeline.specs.Tracks.{GoesOn, begins_of, in_events, track_in}

module _ (es : List Event) (s : State) (begun z : Timeline) (empty : (i : ℕ) → track_in begun i ≡ []) (on : GoesOn (λ i. in_events (i + 1) es s) begun z) where
  pub tracks_are : AreTracks es s (tracks_of z.tracks.items)
  tracks_are = record {
    threads = length-map z.tracks.items (λ (w : Vec Piece). w.items) ∙ on.whole.threads;
    pieces = λ i less. record { partition = on.tracks i less ∙ ap (λ l. l ++ in_events (i + 1) es s) (empty i); maximal = on.whole.maximal i less };
  }

  pub steps_are : z.steps ≡ length (in_events 1 es s)
  steps_are = sym (on.whole.even 0 (omega arith)) ∙ ap (λ l. length l) (on.tracks 0 (omega arith) ∙ ap (λ l. l ++ in_events 1 es s) (empty 0))

-- what was written of them
pub drawn : (style : Style) (k : ℕ) (es : List Event) (s : State) (tracks : List (List Piece)) (chart : Chart) (begins : List ℕ) (old new : Option (List ℕ)) → AreTracks es s tracks
    → begins ≡ begins_of 0 es s → Appends old new (chart_text style.form chart begins tracks) → IsChartOf style k es s tracks chart → Writes (IsDrawing style k es s) old new
drawn style k es s tracks chart begins old new are same written is = record {
  text = chart_text style.form chart begins tracks;
  is = record {
    tracks = tracks;
    are = are;
    chart = chart;
    is = is;
    says = ap (λ (l : List ℕ). chart_text style.form chart l tracks) same;
  };
  written = written;
}
