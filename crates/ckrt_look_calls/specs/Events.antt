-- The lines of an event: of a run those of its steps, of any other a line for itself and one for each wait that it ended.
use Rattle.std.specs.Prelude.{◌≡◌, ◌≤◌, ℕ, zero, suc, ◌+◌, ◌-◌, Option, List, [], ◌∷◌, ◌++◌, codes, decimal}
use Rattle.std.specs.List.{flat_map}
use Rattle.std.specs.Io.KnownBytes.{Appends}
use Rattle.hex.specs.Hex.{encode_lower}
use Rattle.ckrt_events.specs.declared.event.Event.{Event}
use Rattle.ckrt_events.specs.declared.event.Event.TheVariants.{Place as Placing, Run, Input, Eof, Tick, RunLong}
use Rattle.ckrt_machine.specs.Events as machine
use Rattle.ckrt_machine.specs.Events.{Machine}
use Rattle.ckrt_machine.specs.Runs.{run_on, stop_of, stopped, with_byte}
use Rattle.ckrt_machine.specs.Steps.{State, Stepped, hart_step}
use Rattle.ckrt_machine.specs.Stores.{unless_stopped}
use Rattle.ckrt_look_calls.specs.declared.lines.Place.{Place}
use Rattle.ckrt_look_calls.specs.Lines.{over_lines, place_text, step_lines, waiting_of}

-- behind so many events and so many steps of the next one
abbrev pub at : ℕ → ℕ → Place
at k s = record { event = k; step = s }

-- the lines of what is behind a step, unless that ended the run
abbrev pub lines_behind : (State → List ℕ → List ℕ) → ℕ → List ℕ → Stepped → List ℕ
lines_behind more h out e =
    unless_stopped (stop_of h e.state.tables (with_byte e.put out))
    (more e.state (with_byte e.put out))

-- the lines of n steps at most of the thread on hart h, of which the first is behind `made` of the event, where the bytes out were put before
abbrev pub run_lines : (k n made h : ℕ) → State → List ℕ → List ℕ
run_lines k zero made h s out = []
run_lines k (suc n) made h s out =
    step_lines (at k made) h s ++ lines_behind (run_lines k n (suc made) h) h out (hart_step h s)

-- BEHIND A STEP, where the bytes out were put before: unless that ended the run, n steps more at most

abbrev pub state_behind : (n h : ℕ) → State → List ℕ → State
state_behind n h s out = (stopped (run_on n) (stop_of h s.tables out) n h s out).state

abbrev pub lines_after : (k n made h : ℕ) → State → List ℕ → List ℕ
lines_after k n made h s out =
    unless_stopped (stop_of h s.tables out) (run_lines k n made h s out)

-- bytes of input, two hexadecimal digits each
abbrev pub byte_text : ℕ → List ℕ
byte_text byte = encode_lower (byte ∷ [])

abbrev pub input_text : List ℕ → List ℕ
input_text bytes = codes "input " ++ flat_map byte_text bytes

-- the text of an event that is no run
abbrev pub event_text : Event → List ℕ
event_text (Placing h t) = codes "place " ++ decimal h ++ codes " " ++ decimal t
event_text (Input bytes) = input_text bytes.items
event_text Eof = codes "eof"
event_text (Tick k) = codes "tick " ++ decimal k
event_text (Run h n) = []
event_text (RunLong h n) = []

-- an event that is no run, and the waits that it ended
abbrev pub other_lines : ℕ → Event → State → List ℕ
other_lines k e s =
    place_text (at k 0) ++ event_text e ++ codes "\n"
    ++ over_lines (at k 0) (waiting_of s.tables.threads) (machine.step e s).state.tables

-- the lines of the event behind the first k
abbrev pub event_lines : ℕ → Event → State → List ℕ
event_lines k (Run h n) s = run_lines k n 0 h s []
event_lines k (RunLong h n) s = run_lines k n 0 h s []
event_lines k e s = other_lines k e s

-- STEPS OF A RUN AND THEIR LINES, in a row

-- a machine, and what its lines were written to
pub record Told : Type 0 where
  pub machine : Machine
  pub text : Option (List ℕ)

-- some steps were made behind the first ones, of `limit` in all, and their lines written: what is left is what is behind them
pub record GoesOnTold (made : Place) (more limit h : ℕ) (old new : Told) : Type 0 where
  pub some : 1 ≤ more
  pub within : made.step + more ≤ limit
  pub state : state_behind (limit - (made.step + more)) h new.machine.state new.machine.output
      ≡ state_behind (limit - made.step) h old.machine.state old.machine.output
  pub lines : List ℕ
  pub written : Appends old.text new.text lines
  pub parts : lines_after made.event (limit - made.step) made.step h old.machine.state old.machine.output
      ≡ lines ++ lines_after made.event (limit - (made.step + more)) (made.step + more) h new.machine.state new.machine.output
