-- How much of its input a program was given by events.
use Rattle.std.specs.Prelude.{ℕ, List, [], length}
use Rattle.std.specs.List.{flat_map}
use Rattle.ckrt_events.specs.declared.event.Event.{Event}
use Rattle.ckrt_events.specs.declared.event.Event.TheVariants.{Place, Run, Input, Eof, Tick, RunLong}

-- the bytes that an event gives
abbrev pub bytes_of : Event → List ℕ
bytes_of (Place h t) = []
bytes_of (Run h n) = []
bytes_of (Input bytes) = bytes.items
bytes_of Eof = []
bytes_of (Tick k) = []
bytes_of (RunLong h n) = []

-- the bytes that events give, one after another
abbrev pub input_of : List Event → List ℕ
input_of events = flat_map bytes_of events

-- how many these are
abbrev pub taken_by : List Event → ℕ
taken_by events = length (input_of events)
