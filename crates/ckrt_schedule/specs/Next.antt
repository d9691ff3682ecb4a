-- What a program is given next of its input, which is the bytes of a file (this project's choice).
use Rattle.std.specs.Prelude.{◌≡◌, ◌≤◌, ◌+◌, ◌==◌, ◌&&◌, not, nat_le, ℕ, Bool, if◌then◌else◌, List, [], ◌∷◌, ◌++◌, length, take, drop, Option, Some, None}
use Rattle.ckrt_calls.specs.declared.table.Tables.{Tables}
use Rattle.ckrt_calls.specs.WellFormed.{INPUT_LIMIT}
use Rattle.ckrt_events.specs.Bytes.{IsInRange}
use Rattle.ckrt_events.specs.declared.event.Event.{Event}
use Rattle.ckrt_events.specs.declared.event.Event.TheVariants.{Place, Run, Input, Eof, Tick, RunLong}
use Rattle.ckrt_machine.specs.Events.{fold, step, refusal_of}
use Rattle.ckrt_machine.specs.Runs.{is_running}
use Rattle.ckrt_machine.specs.Steps.{State}
use Rattle.ckrt_schedule.specs.Taken.{bytes_of, input_of, taken_by}

-- the next bytes of the rest of a file: as many as one Input has, or all that are left
abbrev pub next_bytes : List ℕ → List ℕ
next_bytes rest = take 64 rest

-- an Input of these bytes, or the end where there are none
abbrev pub given_by : List ℕ → Event
given_by bytes = if length bytes == 0 then Eof else Input (record { items = bytes })

-- the program runs, its input hasn't ended, and its queue has room for that many bytes
abbrev pub has_room : Tables → ℕ → Bool
has_room s n = is_running s.status && (not s.closed && nat_le (length s.input + n) INPUT_LIMIT)

-- What a program is given next, where these bytes of a file are left: the next of them, once its queue has room for them; after the last one the
-- end of input; and nothing more after that.
abbrev pub next_input : Tables → (rest : List ℕ) → Option Event
next_input s rest = if has_room s (length (next_bytes rest)) then Some (given_by (next_bytes rest)) else None

-- what a program is given next of a file's bytes, where it has taken that many of them; without a file nothing
abbrev pub given_in : (file : Option (List ℕ)) → (taken : ℕ) → Tables → Option Event
given_in None taken s = None
given_in (Some bytes) taken s = next_input s (drop taken bytes)

-- OVER A LIST

-- an Input or the end of input is what is next; of other events nothing is said
abbrev pub IsNext : Event → Option Event → Type 0
IsNext (Place h t) next = Unit {0}
IsNext (Run h n) next = Unit {0}
IsNext (Input bytes) next = next ≡ Some (Input bytes)
IsNext Eof next = next ≡ Some Eof
IsNext (Tick k) next = Unit {0}
IsNext (RunLong h n) next = Unit {0}

-- From a state on, where these bytes of a file are left, each Input and each end of input among events is what is next at its turn.
abbrev pub AreGiven : List Event → (rest : List ℕ) → State → Type 0
AreGiven [] rest s = Unit {0}
AreGiven (e ∷ es) rest s =
    IsNext e (next_input s.tables rest)
    × AreGiven es (drop (length (bytes_of e)) rest) (step e s).state

-- WHAT FOLLOWS

-- the Inputs, joined, are a beginning of the file: nothing is given twice, and nothing is left out
abbrev pub GivesBeginning : Type 0
GivesBeginning =
    (events : List Event) (file : List ℕ) (s : State) → AreGiven events file s
    → (rest : List ℕ) × (file ≡ input_of events ++ rest)

-- the end comes only after all of the file
abbrev pub EndsBehindAll : Type 0
EndsBehindAll =
    (front back : List Event) (file : List ℕ) (s : State) → AreGiven (front ++ Eof ∷ back) file s
    → input_of front ≡ file

-- events after others are given from the offset on that those before them left
abbrev pub GoesOnGiven : Type 0
GoesOnGiven =
    (front back : List Event) (file : List ℕ) (s : State) → AreGiven front file s
    → AreGiven back (drop (taken_by front) file) (fold front s).state
    → AreGiven (front ++ back) file s

-- what is next is in its range, and refused for no reason, however much output is held
abbrev pub IsAlwaysTaken : Type 0
IsAlwaysTaken =
    (s : State) (rest : List ℕ) (e : Event) → next_input s.tables rest ≡ Some e
    → IsInRange e × ((held : ℕ) → refusal_of held e s ≡ None)

-- it depends on the next 64 bytes alone
abbrev pub HangsOnNext : Type 0
HangsOnNext =
    (s : Tables) (rest : List ℕ) (n : ℕ) → 64 ≤ n → next_input s (take n rest) ≡ next_input s rest
