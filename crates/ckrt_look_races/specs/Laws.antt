-- Of what a disk has recorded, only races are told, and each that is kept.
use Rattle.std.specs.Prelude.{◌≡◌, ℕ, List, [], ◌∷◌}
use Rattle.std.specs.List.{AllByRecursion}
use Rattle.ckrt_events.specs.Bytes.{IsInRange}
use Rattle.ckrt_events.specs.declared.event.Event.{Event}
use Rattle.ckrt_machine.specs.Steps.{State}
use Rattle.ckrt_look_clocks.specs.declared.operation.Operation.{Operation}
use Rattle.ckrt_look_clocks.specs.Detection.{watched}
use Rattle.ckrt_look_clocks.specs.Histories.{History}
use Rattle.ckrt_look_clocks.specs.Laws.{IsOrderly, IsRaceOf}
use Rattle.ckrt_look_races.specs.Holders.{HOLDERS}
use Rattle.ckrt_look_races.specs.Steps.{of_events}
use Rattle.ckrt_look_calls.specs.Rooms.{words_of}
use Rattle.ckrt_look_races.specs.Recorded.{found_by}

-- operations in order, before a history
abbrev pub latest_first : List Operation → History → History
latest_first [] past = past
latest_first (o ∷ os) past = latest_first os (o ∷ past)

-- the history of events, of which the first is behind k others
abbrev pub history_of : ℕ → List Event → State → History
history_of k es s = latest_first (of_events k es s) []

-- THE HISTORY OF EVENTS IS ORDERLY, so that clocks are exact of it, and each race with an access that is kept is found
abbrev pub HistoriesAreOrderly : Type 0
HistoriesAreOrderly =
    (k : ℕ) (es : List Event) (s : State) → AllByRecursion IsInRange es
    → IsOrderly HOLDERS (history_of k es s)

-- WHAT IS FOUND IS THAT OF THE HISTORY
abbrev pub FoundIsOfTheHistory : Type 0
FoundIsOfTheHistory =
    (k : ℕ) (es : List Event) (s : State)
    → found_by k es s ≡ (watched (history_of k es s) HOLDERS (words_of s)).found

-- ONLY RACES ARE TOLD
abbrev pub OnlyRacesAreTold : Type 0
OnlyRacesAreTold =
    (k : ℕ) (es : List Event) (s : State) → AllByRecursion IsInRange es
    → AllByRecursion (IsRaceOf (history_of k es s)) (found_by k es s).pairs
