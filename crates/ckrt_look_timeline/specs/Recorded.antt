-- The timeline of recorded events, as it is written.
use Rattle.std.specs.Prelude.{◌≡◌, ◌<◌, ℕ, ◌+◌, List, [], length, get_or}
use Rattle.ckrt_events.specs.declared.event.Event.{Event}
use Rattle.ckrt_machine.specs.Steps.{State}
use Rattle.ckrt_look_timeline.specs.declared.page.Chart.{Chart}
use Rattle.ckrt_look_timeline.specs.declared.piece.Piece.{Piece}
use Rattle.ckrt_look_timeline.specs.declared.recorded.Style.{Style}
use Rattle.ckrt_look_timeline.specs.Charts.{chart_text, rows_in}
use Rattle.ckrt_look_timeline.specs.Pieces.{ArePieces}
use Rattle.ckrt_look_timeline.specs.Shares.{drawn_in, span_of}
use Rattle.ckrt_look_timeline.specs.Tracks.{THREADS, begins_of, in_events}

-- The pieces of each thread in events: thread i + 1 is at index i.
pub record AreTracks (es : List Event) (s : State) (tracks : List (List Piece)) : Type 0 where
  pub threads : length tracks ≡ THREADS
  pub pieces : (i : ℕ) → i < THREADS → ArePieces (in_events (i + 1) es s) (get_or tracks i [])

-- what a chart of the events behind the first k says
pub record IsChartOf (style : Style) (k : ℕ) (es : List Event) (s : State) (tracks : List (List Piece))
    (c : Chart) : Type 0 where
  pub width : c.width ≡ style.width
  pub first : c.first ≡ k
  pub events : c.events ≡ length es
  pub steps : c.steps ≡ length (in_events 1 es s)
  pub rows : c.rows ≡ rows_in tracks
  pub span : c.span ≡ span_of style.form (drawn_in tracks) c.rows c.steps

-- this is the text of the timeline of events, of which the first is behind k others
pub record IsDrawing (style : Style) (k : ℕ) (es : List Event) (s : State) (text : List ℕ)
    : Type 0 where
  pub tracks : List (List Piece)
  pub are : AreTracks es s tracks
  pub chart : Chart
  pub is : IsChartOf style k es s tracks chart
  pub says : text ≡ chart_text style.form chart (begins_of 0 es s) tracks
