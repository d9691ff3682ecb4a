-- What is told of recorded events: their errors of memory, and after these their uses of values that were never stored.
use Rattle.std.specs.Prelude.{◌≡◌, ℕ, List, ◌++◌}
use Rattle.std.specs.List.{flat_map}
use Rattle.ckrt_events.specs.declared.event.Event.{Event}
use Rattle.ckrt_machine.specs.Steps.{State}
use Rattle.ckrt_look_recording.specs.declared.rule.Rule.{Rule}
use Rattle.ckrt_look_calls.specs.Stretches.{Account}
use Rattle.ckrt_look_calls.specs.Walks.{after_events}
use Rattle.ckrt_look_calls.specs.Replays.{Replay}
use Rattle.ckrt_look_calls.specs.Rooms.{words_of}
use Rattle.ckrt_look_heap.specs.Recorded.{FillsRoom, errors_text, replay, text_by}
use Rattle.ckrt_look_calls.specs.Rows.{others_line}
use Rattle.ckrt_look_values.specs.Again.{finding_text}
use Rattle.ckrt_look_values.specs.Instructions.{after_step}
use Rattle.ckrt_look_values.specs.Values.{Shadow, fresh}
use Rattle.ckrt_look_values.specs.declared.checking.Checking.{Checking}

-- what is known after these events
abbrev pub shadow_of : Replay → Shadow
shadow_of r = after_events after_step r.count r.events r.start (fresh (words_of r.start))

abbrev pub found_text : Replay → Shadow → List ℕ
found_text r w = flat_map (finding_text r) w.found.rows ++ others_line w.found.others

abbrev pub values_text : Replay → List ℕ
values_text r = found_text r (shadow_of r)

-- what is told of what was found
abbrev pub both_text : Replay → Checking → List ℕ
both_text r c = text_by r r.count c.heap.heap ++ found_text r c.values

-- ALL that is told
abbrev pub checks_text : List Rule → ℕ → List Event → State → List ℕ
checks_text rules k es s = errors_text rules k es s ++ values_text (replay rules k es s)

-- this is that text
abbrev pub IsChecksText : List Rule → (k : ℕ) → List Event → State → List ℕ → Type 0
IsChecksText rules k es s text = text ≡ checks_text rules k es s

-- what is told of events by a look whose shadow of the heap has a room of so many bytes
abbrev pub checks_account : List Rule → (room : ℕ) → Account
checks_account rules room = record { IsText = IsChecksText rules; Fills = FillsRoom room }
