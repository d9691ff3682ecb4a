-- The errors of memory of recorded events, as they are written.
use Rattle.std.specs.Prelude.{◌≡◌, ℕ, ◌+◌, ◌==◌, true, List, length}
use Rattle.ckrt_events.specs.declared.event.Event.{Event}
use Rattle.ckrt_machine.specs.Steps.{State}
use Rattle.ckrt_look_recording.specs.declared.rule.Rule.{Rule}
use Rattle.ckrt_look_calls.specs.Rooms.{slots_in, words_of}
use Rattle.ckrt_look_calls.specs.Replays.{Replay}
use Rattle.ckrt_look_heap.specs.Again.{finding_text, left_text}
use Rattle.ckrt_look_heap.specs.Shadow.{Heap, behind_all, fresh}
use Rattle.ckrt_look_heap.specs.Steps.{of_events}
use Rattle.ckrt_look_heap.specs.Texts.{heap_text}
use Rattle.ckrt_look_heap.specs.Within.{Noted, fresh_within, is_full, noted_all}

-- nothing was noted yet of what is done from a state on, after k events, in a room of so many bytes
abbrev pub fresh_for : (room k : ℕ) → State → Noted
fresh_for room k s = fresh_within (k == 0) (words_of s) (slots_in room 57344 (words_of s))

-- these events, of which the first is after k others, fill a room of so many bytes: the words of a part more differ than it has slots
abbrev pub FillsRoom : (room k : ℕ) → List Event → State → Type 0
FillsRoom room k es s = is_full (noted_all (of_events k es s) (fresh_for room k s)) ≡ true

-- behind k events nothing is known of what was told before
abbrev pub fresh_behind : ℕ → State → Heap
fresh_behind k s = fresh (k == 0) (words_of s)

-- the shadow behind these events, of which the first is behind k others
abbrev pub heap_behind : ℕ → List Event → State → Heap
heap_behind k es s = behind_all (of_events k es s) (fresh_behind k s)

-- what is written of them, with the rules by which callers are found
abbrev pub replay : List Rule → ℕ → List Event → State → Replay
replay rules k es s = record { rules = rules; count = k; events = es; start = s }

abbrev pub text_by : Replay → ℕ → Heap → List ℕ
text_by r k h = heap_text (finding_text r) (left_text r) k (k + length r.events) h

abbrev pub errors_text : List Rule → ℕ → List Event → State → List ℕ
errors_text rules k es s = text_by (replay rules k es s) k (heap_behind k es s)
