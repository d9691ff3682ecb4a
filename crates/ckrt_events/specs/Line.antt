-- The meaning of a line: this project's own commands.
use Rattle.std.specs.Prelude.{ℕ, ◌≤◌, nat_lt, if◌then◌else◌, List, [], ◌∷◌, length, codes, Result, Ok, Err, ⊤}
use Rattle.std.specs.Str.{bytes_eq}
use Rattle.hex.specs.Hex.{decode_of}
use Rattle.hex.specs.declared.error.FromHexError.{FromHexError}
use Rattle.ckrt_events.specs.Bytes.{IsInRange, LAST_HART, LAST_THREAD, LONG_RUN_LIMIT, RUN_LIMIT}
use Rattle.ckrt_events.specs.Words.{words_of, number_in}
use Rattle.ckrt_events.specs.declared.event.Event.TheVariants.{Place, Run, Input, Eof, Tick, RunLong}
use Rattle.ckrt_events.specs.declared.command.Command.{Command}
use Rattle.ckrt_events.specs.declared.command.Command.TheVariants.{Submit, Auto, Commit, Checkpoint, Quit, Blank}
use Rattle.ckrt_events.specs.declared.command.LineFault.{LineFault}
use Rattle.ckrt_events.specs.declared.command.LineFault.TheVariants.{Unknown, Hex, Range, TooLong}

-- harts 0 to 7, 1 to 65,535 steps
abbrev pub IsInRangeCommand : Command → Type 0
IsInRangeCommand (Submit event) = IsInRange event
IsInRangeCommand (Auto h n) = (h ≤ LAST_HART) × (1 ≤ n) × (n ≤ RUN_LIMIT)
IsInRangeCommand Commit = ⊤
IsInRangeCommand Checkpoint = ⊤
IsInRangeCommand Quit = ⊤
IsInRangeCommand Blank = ⊤

-- the second step, where the first gave a value: Rust's `?`
infixl 10 ◌>>=◌
abbrev pub ◌>>=◌ : {A B : Type 0} → Result A LineFault → (A → Result B LineFault) → Result B LineFault
(Ok x) >>= f = f x
(Err e) >>= f = Err e

-- a command that takes no argument
abbrev pub bare_of : Command → List (List ℕ) → Result Command LineFault
bare_of command [] = Ok command
bare_of command (a ∷ more) = Err Unknown

-- the only word
abbrev pub one_of : List (List ℕ) → Result (List ℕ) LineFault
one_of (a ∷ []) = Ok a
one_of [] = Err Unknown
one_of (a ∷ b ∷ more) = Err Unknown

-- the only two words
abbrev pub two_of : List (List ℕ) → Result (List ℕ × List ℕ) LineFault
two_of (a ∷ b ∷ []) = Ok (a, b)
two_of [] = Err Unknown
two_of (a ∷ []) = Err Unknown
two_of (a ∷ b ∷ c ∷ more) = Err Unknown

-- `place h t`
abbrev pub place_of : List (List ℕ) → Result Command LineFault
place_of args = do
  w ← two_of args
  h ← number_in 0 LAST_HART w.0
  t ← number_in 1 LAST_THREAD w.1
  Ok (Submit (Place h t))

-- the arguments `h n`, with that many steps at most
abbrev pub hart_and_steps_of : ℕ → List (List ℕ) → Result (ℕ × ℕ) LineFault
hart_and_steps_of most args = do
  w ← two_of args
  h ← number_in 0 LAST_HART w.0
  n ← number_in 1 most w.1
  Ok (h, n)

-- `run h n`
abbrev pub run_of : List (List ℕ) → Result Command LineFault
run_of args = do
  s ← hart_and_steps_of RUN_LIMIT args
  Ok (Submit (Run s.0 s.1))

-- `runlong h n`
abbrev pub run_long_of : List (List ℕ) → Result Command LineFault
run_long_of args = do
  s ← hart_and_steps_of LONG_RUN_LIMIT args
  Ok (Submit (RunLong s.0 s.1))

-- `auto h n`
abbrev pub auto_of : List (List ℕ) → Result Command LineFault
auto_of args = do
  s ← hart_and_steps_of RUN_LIMIT args
  Ok (Auto s.0 s.1)

-- `tick k`
abbrev pub tick_of : List (List ℕ) → Result Command LineFault
tick_of args = do
  w ← one_of args
  k ← number_in 1 4294967295 w
  Ok (Submit (Tick k))

-- what pairs of hexadecimal digits, of either case, decoded to, where it is at most 64 bytes
abbrev pub at_most_64 : Result (List ℕ) FromHexError → Result (List ℕ) LineFault
at_most_64 (Ok bytes) = if nat_lt 64 (length bytes) then Err Range else Ok bytes
at_most_64 (Err e) = Err Hex

-- `in HEX`
abbrev pub input_of : List (List ℕ) → Result Command LineFault
input_of args = do
  w ← one_of args
  bytes ← at_most_64 (decode_of w)
  Ok (Submit (Input (record { items = bytes })))

-- the command of a first word and the words after it
abbrev pub named_command : List ℕ → List (List ℕ) → Result Command LineFault
named_command name args =
    if bytes_eq name (codes "place") then place_of args
    else if bytes_eq name (codes "run") then run_of args
    else if bytes_eq name (codes "runlong") then run_long_of args
    else if bytes_eq name (codes "in") then input_of args
    else if bytes_eq name (codes "eof") then bare_of (Submit Eof) args
    else if bytes_eq name (codes "tick") then tick_of args
    else if bytes_eq name (codes "auto") then auto_of args
    else if bytes_eq name (codes "commit") then bare_of Commit args
    else if bytes_eq name (codes "checkpoint") then bare_of Checkpoint args
    else if bytes_eq name (codes "quit") then bare_of Quit args
    else Err Unknown

abbrev pub command_of_words : List (List ℕ) → Result Command LineFault
command_of_words [] = Ok Blank
command_of_words (name ∷ args) = named_command name args

-- the command of a line, the line's end left off
abbrev pub command_of : List ℕ → Result Command LineFault
command_of line = if nat_lt 160 (length line) then Err TooLong else command_of_words (words_of line)
