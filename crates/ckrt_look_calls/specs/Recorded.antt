-- The lines of recorded events (this project's own format).
use Rattle.std.specs.Prelude.{◌≡◌, ℕ, ◌+◌, List, [], ◌∷◌, ◌++◌}
use Rattle.ckrt_events.specs.declared.event.Event.{Event}
use Rattle.ckrt_machine.specs.Events.{step}
use Rattle.ckrt_machine.specs.Steps.{State}
use Rattle.ckrt_look_calls.specs.Events.{event_lines}

-- the lines of events, of which the first is behind k others
abbrev pub lines_from : ℕ → List Event → State → List ℕ
lines_from k [] s = []
lines_from k (e ∷ es) s = event_lines k e s ++ lines_from (k + 1) es (step e s).state

-- this is their text
abbrev pub AreLines : (k : ℕ) → List Event → State → List ℕ → Type 0
AreLines k es s text = text ≡ lines_from k es s
