-- The shadow of the heap and what is known of values, after the same steps.
use Rattle.std.specs.Prelude.{ℕ, Bool}
use Rattle.ckrt_machine.specs.Steps.{State}
use Rattle.ckrt_look_calls.specs.declared.lines.Place.{Place}
use Rattle.ckrt_look_calls.specs.Rooms.{words_of}
use Rattle.ckrt_look_heap.specs.Recorded.{fresh_for}
use Rattle.ckrt_look_heap.specs.Steps as heap
use Rattle.ckrt_look_heap.specs.Within.{is_full}
use Rattle.ckrt_look_values.specs.Instructions as values
use Rattle.ckrt_look_values.specs.Values.{fresh}
use Rattle.ckrt_look_values.specs.declared.checking.Checking.{Checking}

-- by a step of the thread on a hart
abbrev pub after_step : Place → (h : ℕ) → State → Checking → Checking
after_step p h s c = record {
  heap = heap.after_step p h s c.heap;
  values = values.after_step p h s c.values;
}

-- the room of the heap's shadow is used up
abbrev pub is_used_up : Checking → Bool
is_used_up c = is_full c.heap

-- nothing was told yet, and all is known, from a state on, after k events
abbrev pub fresh_checks : (room k : ℕ) → State → Checking
fresh_checks room k s = record { heap = fresh_for room k s; values = fresh (words_of s) }
