-- What gdb's user commands by `monitor` (this project's choice): a name and, behind a space, what it is about.
use Rattle.std.specs.Prelude.{ℕ, ◌^◌, ◌==◌, ◌&&◌, nat_lt, Bool, if◌then◌else◌, List, [], length, codes, Option, Some, None, is_some, option_and_then, option_map, ok_or, unwrap_or, Result, Ok, Err}
use Rattle.std.specs.Char.{digit_value}
use Rattle.std.specs.List.{after_first, before_first, list_all, position_or_len}
use Rattle.std.specs.Str.{bytes_eq, is_utf8}
use Rattle.std.specs.Str.Parse.{digits_value, without_leading_plus}
use Rattle.ckrt_events.specs.Bytes.{IsInRange}
use Rattle.ckrt_events.specs.Line as line
use Rattle.ckrt_events.specs.declared.command.Command.{Command as LineCommand}
use Rattle.ckrt_events.specs.declared.command.Command.TheVariants.{Submit}
use Rattle.ckrt_events.specs.declared.command.LineFault.{LineFault}
use Rattle.ckrt_events.specs.declared.command.LineFault.TheVariants.{Unknown}
use Rattle.ckrt_events.specs.declared.event.Event.{Event}
use Rattle.ckrt_gdb_stub.specs.declared.command.Command.{Command}
use Rattle.ckrt_gdb_stub.specs.declared.command.Command.TheVariants.{Append, Events, Extend, Fork, GoTo, GoToEnd, Help, Inspect, Limit, Until}
use Rattle.ckrt_gdb_stub.specs.declared.command.Misread.{Misread}
use Rattle.ckrt_gdb_stub.specs.declared.command.Misread.TheVariants.{Name, Number, Position, Superfluous}
use Rattle.ckrt_gdb_stub.specs.declared.command.Place.{Place}

-- NUMBERS in decimal

-- digits, one or more, behind a plus or not, of a number of 64 bits
abbrev pub is_number : List ℕ → Bool
is_number t =
    let ds = without_leading_plus t in
    nat_lt 0 (length ds) && (list_all (λ d. nat_lt (digit_value d) 10) ds && nat_lt (digits_value 10 ds) (2 ^ 64))

abbrev pub number_of : List ℕ → Option ℕ
number_of t = if is_number t then Some (digits_value 10 (without_leading_plus t)) else None

-- one of 32 bits
abbrev pub word_in : ℕ → Option ℕ
word_in n = if nat_lt n (2 ^ 32) then Some n else None

abbrev pub word_of : List ℕ → Option ℕ
word_of t = option_and_then word_in (number_of t)

-- one of 32 bits from 1 on
abbrev pub positive_in : ℕ → Option ℕ
positive_in n = if nat_lt 0 n then Some n else None

abbrev pub positive_of : List ℕ → Option ℕ
positive_of t = option_and_then positive_in (word_of t)

-- PLACES: `K` or `K+S`

abbrev pub is_plus : ℕ → Bool
is_plus b = b == 43

-- one byte or more of a text is a plus
abbrev pub has_plus : List ℕ → Bool
has_plus t = nat_lt (position_or_len is_plus t) (length t)

abbrev pub steps_of : List ℕ → Option ℕ
steps_of t = if has_plus t then word_of (after_first is_plus t) else Some 0

abbrev pub with_steps : List ℕ → ℕ → Option Place
with_steps t k = option_map (λ s. record { events = k; steps = s }) (steps_of t)

abbrev pub place_of : List ℕ → Option Place
place_of t = option_and_then (with_steps t) (number_of (before_first is_plus t))

-- EVENTS, as the lines of a session of `ckrt run` have them

abbrev pub event_in : Result LineCommand LineFault → Result Event LineFault
event_in (Ok (Submit e)) = Ok e
event_in (Ok _) = Err Unknown
event_in (Err fault) = Err fault

abbrev pub event_of : List ℕ → Result Event LineFault
event_of t = event_in (line.command_of t)

-- COMMANDS

abbrev pub is_space : ℕ → Bool
is_space b = b == 32

-- one byte or more of a text is a space
abbrev pub has_space : List ℕ → Bool
has_space t = nat_lt (position_or_len is_space t) (length t)

-- one that stands alone, by its name
abbrev pub alone : List ℕ → Option Command
alone name =
    if bytes_eq name (codes "events") then Some Events
    else if bytes_eq name (codes "inspect") then Some Inspect
    else if bytes_eq name (codes "fork") then Some Fork
    else if bytes_eq name (codes "help") then Some Help
    else None

-- to a place, or to the end
abbrev pub going_of : (word : List ℕ) → Option Command
going_of word = if bytes_eq word (codes "end") then Some GoToEnd else option_map GoTo (place_of word)

-- one that is about a word
abbrev pub about : (name word : List ℕ) → Result Command Misread
about name word =
    if bytes_eq name (codes "goto") then ok_or (going_of word) Position
    else if bytes_eq name (codes "until") then ok_or (option_map Until (place_of word)) Position
    else if bytes_eq name (codes "limit") then ok_or (option_map Limit (positive_of word)) Number
    else if bytes_eq name (codes "live") then ok_or (option_map Extend (positive_of word)) Number
    else if bytes_eq name (codes "event") then Ok (Append (event_of word))
    else Err Name

-- nothing goes behind one that stands alone
abbrev pub with_word : (name word : List ℕ) → Result Command Misread
with_word name word = if is_some (alone name) then Err Superfluous else about name word

-- any other one is about an empty word where none is behind it
abbrev pub without_word : (name : List ℕ) → Result Command Misread
without_word name = unwrap_or (option_map Ok (alone name)) (about name [])

abbrev pub command_in : List ℕ → Result Command Misread
command_in text =
    if has_space text then with_word (before_first is_space text) (after_first is_space text)
    else without_word text

-- the command of a text, or why it is none; an empty one asks for help
abbrev pub command_of : List ℕ → Result Command Misread
command_of text =
    if length text == 0 then Ok Help
    else if is_utf8 text then command_in text
    else Err Name

-- the fields of its event are in their ranges, where it has one
abbrev pub IsInRangeEvent : Result Event LineFault → Type 0
IsInRangeEvent (Ok e) = IsInRange e
IsInRangeEvent (Err fault) = Unit {0}

abbrev pub IsInRangeCommand : Command → Type 0
IsInRangeCommand (Append event) = IsInRangeEvent event
IsInRangeCommand _ = Unit {0}
