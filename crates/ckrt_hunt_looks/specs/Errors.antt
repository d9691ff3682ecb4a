-- The look at errors of memory: what it notes of a run, and what is counted of all.
use Rattle.std.specs.Prelude.{◌≡◌, ℕ, nat_lt, Bool, length, List}
use Rattle.ckrt_events.specs.declared.event.Event.{Event}
use Rattle.ckrt_machine.specs.Steps.{State}
use Rattle.ckrt_look_heap.specs.Recorded.{FillsRoom, fresh_for, heap_behind}
use Rattle.ckrt_look_heap.specs.Shadow.{Found}
use Rattle.ckrt_look_heap.specs.Steps.{of_event}
use Rattle.ckrt_look_heap.specs.Within.{Noted, noted_all}
use Rattle.ckrt_look_heap.specs.declared.finding.Finding.{Finding}
use Rattle.ckrt_hunt_looks.specs.Kinds.{error_kind}
use Rattle.ckrt_hunt_looks.specs.Looks.{Looking}
use Rattle.ckrt_hunt_looks.specs.Rows.{no_rows, rows_in, with_run}
use Rattle.ckrt_hunt_looks.specs.declared.rows.FoundRows.{FoundRows}

-- the errors that these events have, from a program's beginning on: those that `ckrt check` tells
abbrev pub errors_by : List Event → State → Found
errors_by es s = (heap_behind 0 es s).found

-- a run is counted by them
abbrev pub CountsErrors : (seed : ℕ) → List Event → State → (old new : FoundRows Finding) → Type 0
CountsErrors seed es s old new =
    rows_in new ≡ with_run error_kind seed (errors_by es s).rows (errors_by es s).others (rows_in old)

-- some run had one
abbrev pub has_error : FoundRows Finding → Bool
has_error t = nat_lt 0 (length t.rows.items)

-- THE LOOK: its shadow has the notes of each event, and fills its room where that of `ckrt check` does
abbrev pub error_look : Looking Noted (FoundRows Finding)
error_look = record {
  fresh = λ room s. fresh_for room 0 s;
  noted = λ k e s h. noted_all (of_event k e s) h;
  IsNothing = λ t. rows_in t ≡ no_rows;
  Counts = CountsErrors;
  Fills = λ room es s. FillsRoom room 0 es s;
}
