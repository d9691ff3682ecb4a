-- What is written reads back.
use Rattle.std.specs.Prelude.{◌≡◌, ℕ, ◌^◌, ◌<◌, ◌≤◌, ◌==◌, ◌||◌, ◌&&◌, not, Bool, true, if◌then◌else◌, List, [], ◌∷◌, length, bit_xor, Option, Some, None, Ok}
use Rattle.hex.specs.Hex.{IsBytes, decode_of}
use Rattle.ckrt_gdb_forms.specs.declared.frame.Stage.TheVariants.{Outside}
use Rattle.ckrt_gdb_forms.specs.declared.frame.Arrival.{Arrival}
use Rattle.ckrt_gdb_forms.specs.declared.frame.Arrival.TheVariants.{Packet}
use Rattle.ckrt_gdb_forms.specs.declared.reply.Reply.{Reply}
use Rattle.ckrt_gdb_forms.specs.Framing.{Line, arrival_of, frame_of, line_after}
use Rattle.ckrt_gdb_forms.specs.Numbers.{hex_text, number_of, number_text}
use Rattle.ckrt_gdb_forms.specs.Replies.{escaped, reply_text}

-- FRAMES

-- what arrives with bytes, in order, and the line after them
pub record Heard : Type 0 where
  pub line : Line
  pub arrivals : List Arrival

abbrev pub onto : Option Arrival → Heard → Heard
onto None heard = heard
onto (Some arrival) heard = record { line = heard.line; arrivals = arrival ∷ heard.arrivals }

abbrev pub hear : List ℕ → Line → Heard
hear [] line = record { line = line; arrivals = [] }
hear (b ∷ bytes) line = onto (arrival_of b line) (hear bytes (line_after b line))

-- a packet with this payload, and nothing else
abbrev pub packet_heard : List ℕ → Heard
packet_heard payload =
    record { line = record { stage = Outside; payload = payload }; arrivals = Packet ∷ [] }

-- a byte that neither begins a frame nor ends a payload
abbrev pub is_plain_byte : ℕ → Bool
is_plain_byte b = not ((b == 35) || (b == 36))

abbrev pub is_plain : List ℕ → Bool
is_plain [] = true
is_plain (b ∷ bytes) = is_plain_byte b && is_plain bytes

-- whatever was on the line before, the frame of a payload is heard as that payload
abbrev pub FramesReadBack : Type 0
FramesReadBack =
    (payload : List ℕ) (line : Line) → is_plain payload ≡ true → length payload ≤ 4096 → hear (frame_of payload) line ≡ packet_heard payload

-- every reply has a payload that reads back so
abbrev pub RepliesArePlain : Type 0
RepliesArePlain = (reply : Reply) → is_plain (reply_text reply) ≡ true

-- PARTS OF A PAYLOAD

abbrev pub NumbersReadBack : Type 0
NumbersReadBack = (n : ℕ) → n < 2 ^ 32 → number_of (number_text n) ≡ Some n

abbrev pub BytesReadBack : Type 0
BytesReadBack = (bytes : List ℕ) → IsBytes bytes → decode_of (hex_text bytes) ≡ Ok bytes

-- bytes as gdb reads them: a byte behind `}` with the bit of 32 turned
abbrev pub unescaped : List ℕ → List ℕ
unescaped [] = []
unescaped (b ∷ []) = b ∷ []
unescaped (b ∷ c ∷ more) = if b == 125 then bit_xor c 32 ∷ unescaped more else b ∷ unescaped (c ∷ more)

abbrev pub EscapedReadsBack : Type 0
EscapedReadsBack = (bytes : List ℕ) → unescaped (escaped bytes) ≡ bytes
