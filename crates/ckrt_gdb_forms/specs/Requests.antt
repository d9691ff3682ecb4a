-- What each packet of gdb asks. Every payload has a meaning: one that is none of these is `Unknown`, and one of these whose arguments
-- can't be read is `Malformed`.
use Rattle.std.specs.Prelude.{ℕ, ◌==◌, ◌||◌, nat_lt, Bool, true, false, if◌then◌else◌, List, [], ◌∷◌, length, take, drop, codes, Option, Some, None, unwrap_or, Result, Ok, Err}
use Rattle.std.specs.List.{onto_first}
use Rattle.std.specs.Str.{bytes_eq}
use Rattle.hex.specs.Hex.{decode_of}
use Rattle.hex.specs.declared.error.FromHexError.{FromHexError}
use Rattle.ckrt_gdb_forms.specs.Numbers.{number_of}
use Rattle.ckrt_gdb_forms.specs.declared.request.Choice.{Choice}
use Rattle.ckrt_gdb_forms.specs.declared.request.Choice.TheVariants.{All, Any, One}
use Rattle.ckrt_gdb_forms.specs.declared.request.Mark.{Mark}
use Rattle.ckrt_gdb_forms.specs.declared.request.Mark.TheVariants.{Execution, Writes, Reads, Accesses}
use Rattle.ckrt_gdb_forms.specs.declared.request.Motion.{Motion}
use Rattle.ckrt_gdb_forms.specs.declared.request.Motion.TheVariants.{Continue, Step, StepOut}
use Rattle.ckrt_gdb_forms.specs.declared.request.Request.{Request}
use Rattle.ckrt_gdb_forms.specs.declared.request.Request.TheVariants.{Features, WithoutAcknowledgements, Extended, LastStop, Registers, Memory, Examine, Choose, IsAlive, FirstThreads, MoreThreads, ThreadText, Insert, Remove, StepBack, ContinueBack, Motions, Move, Monitor, Restart, Detach, Kill, IsAttached, Symbols, Description, Change, Malformed, Unknown}

-- the second step, where the first gave a value: Rust's `?`
infixl 10 ◌>>=◌
abbrev pub ◌>>=◌ : {A B : Type 0} → Option A → (A → Option B) → Option B
(Some x) >>= f = f x
None >>= f = None

-- PARTS OF A PACKET

-- the bytes before the first that passes a test, or all of them
abbrev pub before : (ℕ → Bool) → List ℕ → List ℕ
before p [] = []
before p (b ∷ bytes) = if p b then [] else b ∷ before p bytes

-- the bytes after the first that passes a test, where there is one
abbrev pub after : (ℕ → Bool) → List ℕ → Option (List ℕ)
after p [] = None
after p (b ∷ bytes) = if p b then Some bytes else after p bytes

-- the same, or none
abbrev pub behind : (ℕ → Bool) → List ℕ → List ℕ
behind p bytes = unwrap_or (after p bytes) []

abbrev pub is_byte : ℕ → ℕ → Bool
is_byte value b = b == value

abbrev pub is_comma : ℕ → Bool
is_comma = is_byte 44

abbrev pub is_colon : ℕ → Bool
is_colon = is_byte 58

abbrev pub is_semicolon : ℕ → Bool
is_semicolon = is_byte 59

-- what ends the name of a packet: `:`, `;` or `,`
abbrev pub is_separator : ℕ → Bool
is_separator b = (b == 58) || (b == 59) || (b == 44)

-- the parts between semicolons, empty ones too, with a byte more at the front
abbrev pub part_byte : ℕ → Bool → List (List ℕ) → List (List ℕ)
part_byte b true parts = [] ∷ parts
part_byte b false parts = onto_first b parts

abbrev pub parts_of : List ℕ → List (List ℕ)
parts_of [] = [] ∷ []
parts_of (b ∷ bytes) = part_byte b (b == 59) (parts_of bytes)

-- ARGUMENTS

-- two numbers with a comma between them
abbrev pub pair_of : List ℕ → Option (ℕ × ℕ)
pair_of word = do
  behind ← after is_comma word
  first ← number_of (before is_comma word)
  second ← number_of behind
  Some (first, second)

-- threads by a number: 0 for any, -1 for all
abbrev pub numbered : ℕ → Choice
numbered n = if n == 0 then Any else One n

abbrev pub choice_of : List ℕ → Option Choice
choice_of word =
    if bytes_eq word (codes "-1") then Some All
    else (do
      n ← number_of word
      Some (numbered n))

abbrev pub decoded : Result (List ℕ) FromHexError → Option (List ℕ)
decoded (Ok bytes) = Some bytes
decoded (Err e) = None

-- the text of at most 256 bytes that pairs of digits write
abbrev pub text_of : List ℕ → Option (List ℕ)
text_of word = if nat_lt 512 (length word) then None else decoded (decode_of word)

-- a place where gdb wants a stop, by its kind, its address and its length
abbrev pub mark_of_kind : List ℕ → ℕ → ℕ → Option Mark
mark_of_kind kind address size =
    if bytes_eq kind (codes "0") then Some (Execution address)
    else if bytes_eq kind (codes "1") then Some (Execution address)
    else if bytes_eq kind (codes "2") then Some (Writes address size)
    else if bytes_eq kind (codes "3") then Some (Reads address size)
    else if bytes_eq kind (codes "4") then Some (Accesses address size)
    else None

abbrev pub mark_of : List ℕ → List ℕ → Option Mark
mark_of kind args = do
  range ← pair_of args
  mark_of_kind kind range.0 range.1

-- HOW THREADS MOVE

-- the thread behind a colon, or any
abbrev pub target_of : Option (List ℕ) → Option Choice
target_of None = Some Any
target_of (Some word) = choice_of word

-- a motion by its letter and what follows that: on, whatever the signal; a step; or steps within a range
abbrev pub motion_by : Choice → List ℕ → Option Motion
motion_by choice [] = None
motion_by choice (b ∷ more) =
    if (b == 99) || (b == 67) then Some Continue
    else if (b == 115) || (b == 83) then Some (Step choice)
    else if b == 114 then (do
      range ← pair_of more
      Some (StepOut range.0 range.1 choice))
    else None

abbrev pub motion_of : List ℕ → Option Motion
motion_of word = do
  choice ← target_of (after is_colon word)
  motion_by choice (before is_colon word)

-- what follows a motion: nothing where a thread steps
abbrev pub or_next : Option Motion → Motion → Option Motion
or_next next Continue = next
or_next next (Step choice) = Some (Step choice)
or_next next (StepOut from to choice) = Some (StepOut from to choice)

-- the first motion that steps a thread, or on
abbrev pub motion_among : List (List ℕ) → Option Motion
motion_among [] = None
motion_among (word ∷ []) = motion_of word
motion_among (word ∷ next ∷ more) = motion_of word >>= or_next (motion_among (next ∷ more))

-- the same, by the bytes before the first semicolon and those after it
abbrev pub motion_by_turns : List ℕ → Option (List ℕ) → Option Motion
motion_by_turns word None = motion_of word
motion_by_turns word (Some more) = motion_of word >>= or_next (motion_among (parts_of more))

-- PACKETS

abbrev pub move_of : List ℕ → Option Request
move_of args = do
  motion ← motion_among (parts_of args)
  Some (Move motion)

abbrev pub monitor_of : List ℕ → Option Request
monitor_of args = do
  text ← text_of args
  Some (Monitor (record { items = text }))

-- the first argument behind the program's name, or none
abbrev pub argument_of : Option (List ℕ) → List ℕ
argument_of None = []
argument_of (Some args) = before is_semicolon args

abbrev pub restart_of : List ℕ → Option Request
restart_of args = do
  text ← text_of (argument_of (after is_semicolon args))
  Some (Restart (record { items = text }))

abbrev pub thread_text_of : List ℕ → Option Request
thread_text_of args = do
  choice ← choice_of args
  Some (ThreadText choice)

-- the only object that a stub has to read
abbrev pub description : List ℕ
description = codes "features:read:target.xml:"

abbrev pub object_of : List ℕ → Option Request
object_of args =
    if bytes_eq (take (length description) args) description then (do
      range ← pair_of (drop (length description) args)
      Some (Description range.0 range.1))
    else Some Unknown

-- packets whose name is one letter, with arguments right behind it
abbrev pub memory_of : List ℕ → List ℕ → Option Request
memory_of word args = do
  address ← number_of word
  count ← number_of args
  Some (Memory address count)

abbrev pub choosing_of : List ℕ → Option Request
choosing_of [] = None
choosing_of (b ∷ word) = do
  choice ← choice_of word
  (if b == 103 then Some (Examine choice) else if b == 99 then Some (Choose choice) else None)

abbrev pub alive_of : List ℕ → Option Request
alive_of word = do
  choice ← choice_of word
  Some (IsAlive choice)

abbrev pub insert_of : List ℕ → List ℕ → Option Request
insert_of kind args = do
  mark ← mark_of kind args
  Some (Insert mark)

abbrev pub remove_of : List ℕ → List ℕ → Option Request
remove_of kind args = do
  mark ← mark_of kind args
  Some (Remove mark)

abbrev pub by_letter : List ℕ → List ℕ → Option Request
by_letter [] args = Some Unknown
by_letter (b ∷ word) args =
    if b == 109 then memory_of word args
    else if b == 72 then choosing_of word
    else if b == 84 then alive_of word
    else if b == 90 then insert_of word args
    else if b == 122 then remove_of word args
    else if (b == 71) || (b == 80) || (b == 77) || (b == 88) then Some Change
    else Some Unknown

abbrev pub with_arguments : List ℕ → List ℕ → Option Request
with_arguments name args =
    if bytes_eq name (codes "vCont") then move_of args
    else if bytes_eq name (codes "qRcmd") then monitor_of args
    else if bytes_eq name (codes "qXfer") then object_of args
    else if bytes_eq name (codes "qThreadExtraInfo") then thread_text_of args
    else if bytes_eq name (codes "vRun") then restart_of args
    else by_letter name args

abbrev pub query_of : List ℕ → Option Request
query_of name =
    if bytes_eq name (codes "qSupported") then Some Features
    else if bytes_eq name (codes "QStartNoAckMode") then Some WithoutAcknowledgements
    else if bytes_eq name (codes "qfThreadInfo") then Some FirstThreads
    else if bytes_eq name (codes "qsThreadInfo") then Some MoreThreads
    else if bytes_eq name (codes "qAttached") then Some IsAttached
    else if bytes_eq name (codes "qSymbol") then Some Symbols
    else None

abbrev pub command_of : List ℕ → Option Request
command_of name =
    if bytes_eq name (codes "?") then Some LastStop
    else if bytes_eq name (codes "g") then Some Registers
    else if bytes_eq name (codes "bs") then Some StepBack
    else if bytes_eq name (codes "bc") then Some ContinueBack
    else if bytes_eq name (codes "vCont?") then Some Motions
    else if bytes_eq name (codes "!") then Some Extended
    else if bytes_eq name (codes "D") then Some Detach
    else if bytes_eq name (codes "k") then Some Kill
    else if bytes_eq name (codes "vKill") then Some Kill
    else None

-- the first of two that is there
abbrev pub or_else : Option Request → Option Request → Option Request
or_else (Some request) other = Some request
or_else None other = other

abbrev pub named : List ℕ → List ℕ → Option Request
named name args = or_else (command_of name) (or_else (query_of name) (with_arguments name args))

-- what a payload asks
abbrev pub request_of : List ℕ → Request
request_of packet =
    unwrap_or (named (before is_separator packet) (behind is_separator packet)) Malformed
