-- Packets on the line between gdb and a stub: frames with checksums, acknowledgements, and the byte of an interrupt.
use Rattle.std.specs.Prelude.{ℕ, ◌+◌, ◌*◌, ◌%◌, ◌==◌, nat_lt, Bool, false, if◌then◌else◌, List, [], ◌∷◌, ◌++◌, length, sum, Option, Some, None}
use Rattle.hex.specs.Hex.{hex_digit_value}
use Rattle.ckrt_gdb_forms.specs.Numbers.{byte_text}
use Rattle.ckrt_gdb_forms.specs.declared.frame.Stage.{Stage}
use Rattle.ckrt_gdb_forms.specs.declared.frame.Stage.TheVariants.{Outside, Payload, Overlong, FirstDigit, LastDigit}
use Rattle.ckrt_gdb_forms.specs.declared.frame.Arrival.{Arrival}
use Rattle.ckrt_gdb_forms.specs.declared.frame.Arrival.TheVariants.{Acknowledged, Refused, Interrupt, Packet, Broken}

-- the sum of the bytes of a payload, modulo 256
abbrev pub checksum : List ℕ → ℕ
checksum payload = sum payload % 256

-- a payload between `$` and `#`, and its checksum in two digits
abbrev pub frame_of : List ℕ → List ℕ
frame_of payload = (36 ∷ payload) ++ (35 ∷ byte_text (checksum payload))

-- what a receiver knows of the line: where in a frame the next byte stands, and the payload of that frame so far, or of the last one
pub record Line : Type 0 where
  pub stage : Stage
  pub payload : List ℕ

abbrev pub at : Stage → Line → Line
at stage line = record { stage = stage; payload = line.payload }

-- the two digits of a checksum, where both are digits
abbrev pub two_digits : Option ℕ → Option ℕ → Option ℕ
two_digits None low = None
two_digits (Some high) None = None
two_digits (Some high) (Some low) = Some (16 * high + low)

abbrev pub is_value : Option ℕ → ℕ → Bool
is_value None n = false
is_value (Some m) n = m == n

-- whether two bytes are the digits of the checksum of a payload
abbrev pub is_checksum : ℕ → ℕ → List ℕ → Bool
is_checksum high low payload =
    is_value (two_digits (hex_digit_value high) (hex_digit_value low)) (checksum payload)

-- a byte within a payload: its end, or one more where there is room
abbrev pub with_byte : ℕ → Line → Line
with_byte b line =
    if b == 35 then at FirstDigit line
    else if nat_lt (length line.payload) 4096 then record { stage = Payload; payload = line.payload ++ b ∷ [] }
    else at Overlong line

abbrev pub line_at : Stage → ℕ → Line → Line
line_at Outside b line = line
line_at Payload b line = with_byte b line
line_at Overlong b line = if b == 35 then at Outside line else line
line_at FirstDigit b line = at (LastDigit b) line
line_at (LastDigit high) b line = at Outside line

-- the line after a byte: `$` begins a frame wherever it comes
abbrev pub line_after : ℕ → Line → Line
line_after b line = if b == 36 then record { stage = Payload; payload = [] } else line_at line.stage b line

-- what a byte between frames says
abbrev pub sign_of : ℕ → Option Arrival
sign_of b =
    if b == 43 then Some Acknowledged
    else if b == 45 then Some Refused
    else if b == 3 then Some Interrupt
    else None

abbrev pub arrival_at : Stage → ℕ → List ℕ → Option Arrival
arrival_at Outside b payload = sign_of b
arrival_at Payload b payload = None
arrival_at Overlong b payload = if b == 35 then Some Broken else None
arrival_at FirstDigit b payload = None
arrival_at (LastDigit high) b payload = if is_checksum high b payload then Some Packet else Some Broken

-- what has arrived with a byte
abbrev pub arrival_of : ℕ → Line → Option Arrival
arrival_of b line = if b == 36 then None else arrival_at line.stage b line.payload
