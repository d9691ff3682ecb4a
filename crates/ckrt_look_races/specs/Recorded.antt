-- The races of recorded events, as they are written.
use Rattle.std.specs.Prelude.{◌≡◌, ℕ, ◌+◌, ◌++◌, true, List, length}
use Rattle.ckrt_events.specs.declared.event.Event.{Event}
use Rattle.ckrt_machine.specs.Steps.{State}
use Rattle.ckrt_look_recording.specs.declared.rule.Rule.{Rule}
use Rattle.ckrt_look_calls.specs.Stretches.{Account}
use Rattle.ckrt_look_calls.specs.Rooms.{slots_in, words_of}
use Rattle.ckrt_look_clocks.specs.Detection.{Found, behind_all, fresh}
use Rattle.ckrt_look_clocks.specs.LockHistories.{Ordered}
use Rattle.ckrt_look_clocks.specs.Within.{Detected, fresh_within, is_full, noted_all}
use Rattle.ckrt_look_calls.specs.Replays.{Replay}
use Rattle.ckrt_look_races.specs.Again.{race_text}
use Rattle.ckrt_look_races.specs.Holders.{HOLDERS}
use Rattle.ckrt_look_races.specs.Inversions.{inversion_text, orders_text}
use Rattle.ckrt_look_races.specs.Steps.{of_events}
use Rattle.ckrt_look_races.specs.Texts.{found_text}

-- nothing was noted yet of what is done from a state on, in a room of so many bytes
abbrev pub fresh_for : (room : ℕ) → State → Detected
fresh_for room s = fresh_within HOLDERS (words_of s) (slots_in room 286720 (words_of s))

-- these events, of which the first is behind k others, fill a room of so many bytes: they touch a part more than it has slots
abbrev pub FillsRoom : (room k : ℕ) → List Event → State → Type 0
FillsRoom room k es s = is_full (noted_all (of_events k es s) (fresh_for room s)) ≡ true

-- what is found by these events, of which the first is behind k others, where all that came before is taken as ordered
abbrev pub found_by : ℕ → List Event → State → Found
found_by k es s = (behind_all (of_events k es s) (fresh HOLDERS (words_of s))).found

-- what is known of locks then
abbrev pub orders_by : ℕ → List Event → State → Ordered
orders_by k es s = (behind_all (of_events k es s) (fresh HOLDERS (words_of s))).orders

-- what is written of them, with the rules by which callers are found
abbrev pub replay : List Rule → ℕ → List Event → State → Replay
replay rules k es s = record { rules = rules; count = k; events = es; start = s }

abbrev pub told_races : List Rule → ℕ → List Event → State → List ℕ
told_races rules k es s =
    found_text (race_text (replay rules k es s)) k (k + length es) (found_by k es s)

abbrev pub told_orders : List Rule → ℕ → List Event → State → List ℕ
told_orders rules k es s =
    orders_text (inversion_text (replay rules k es s)) k (k + length es) (orders_by k es s)

-- races first
abbrev pub races_text : List Rule → ℕ → List Event → State → List ℕ
races_text rules k es s = told_races rules k es s ++ told_orders rules k es s

-- this is that text
abbrev pub IsRacesText : List Rule → (k : ℕ) → List Event → State → List ℕ → Type 0
IsRacesText rules k es s text = text ≡ races_text rules k es s

-- what is told of events by a look with a shadow in a room of so many bytes
abbrev pub races_account : List Rule → (room : ℕ) → Account
races_account rules room = record { IsText = IsRacesText rules; Fills = FillsRoom room }
