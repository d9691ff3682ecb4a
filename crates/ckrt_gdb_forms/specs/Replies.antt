-- The payload of each reply.
use Rattle.std.specs.Prelude.{ℕ, ◌+◌, ◌-◌, ◌==◌, ◌||◌, nat_le, min, if◌then◌else◌, Bool, List, [], ◌∷◌, ◌++◌, map, length, take, drop, codes}
use Rattle.std.specs.List.{join_with_byte}
use Rattle.ckrt_gdb_forms.specs.Numbers.{byte_text, hex_text, number_text}
use Rattle.ckrt_gdb_forms.specs.declared.reply.Cause.{Cause}
use Rattle.ckrt_gdb_forms.specs.declared.reply.Cause.TheVariants.{Stopped, Written, Read, Accessed, Begin, End}
use Rattle.ckrt_gdb_forms.specs.declared.reply.Reply.{Reply}
use Rattle.ckrt_gdb_forms.specs.declared.reply.Reply.TheVariants.{Unsupported, Done, Failed, Bytes, Console, Features, Motions, Attached, Threads, NoMoreThreads, Stop, Part}

-- a byte that stands for more than itself: `#`, `$`, `*` or `}`
abbrev pub is_special : ℕ → Bool
is_special b = (b == 35) || (b == 36) || (b == 42) || (b == 125)

-- a byte as it is, or a special one as `}` and the byte with the bit of 32 turned, which each of them has
abbrev pub escape : ℕ → List ℕ
escape b = if is_special b then (125 ∷ (b - 32) ∷ []) else (b ∷ [])

abbrev pub escaped : List ℕ → List ℕ
escaped [] = []
escaped (b ∷ bytes) = escape b ++ escaped bytes

-- a word, an address, and the sign that ends them
abbrev pub address_text : List ℕ → ℕ → List ℕ
address_text word address = word ++ (number_text address ++ codes ";")

-- why a program stopped, where gdb is told so
abbrev pub cause_text : Cause → List ℕ
cause_text Stopped = []
cause_text (Written address) = address_text (codes "watch:") address
cause_text (Read address) = address_text (codes "rwatch:") address
cause_text (Accessed address) = address_text (codes "awatch:") address
cause_text Begin = codes "replaylog:begin;"
cause_text End = codes "replaylog:end;"

-- why a thread stopped, and which
abbrev pub why_text : Cause → ℕ → List ℕ
why_text cause thread = cause_text cause ++ address_text (codes "thread:") thread

-- a stop of a thread by a signal
abbrev pub stop_text : ℕ → Cause → ℕ → List ℕ
stop_text signal cause thread = (codes "T" ++ byte_text signal) ++ why_text cause thread

-- numbers with commas between them
abbrev pub ids_text : List ℕ → List ℕ
ids_text ids = join_with_byte 44 (map number_text ids)

abbrev pub threads_text : List ℕ → List ℕ
threads_text ids = codes "m" ++ ids_text ids

-- how many bytes of a part go into a packet, however many of them are special
abbrev pub part_count : ℕ → ℕ
part_count count = min count 2047

-- the first byte of a part: `l` of the last one, else `m`
abbrev pub part_sign : ℕ → ℕ → ℕ → List ℕ
part_sign size from count = if nat_le size (from + part_count count) then codes "l" else codes "m"

-- the part of a text that begins at an offset, with so many bytes at most
abbrev pub part_text : List ℕ → ℕ → ℕ → List ℕ
part_text text from count =
    part_sign (length text) from count ++ escaped (take (part_count count) (drop from text))

-- what the stub has: a packet's limit of 4,096 bytes, no acknowledgements where gdb wants none, a description of the target, and both
-- ways of going back
abbrev pub features_text : List ℕ
features_text = codes "PacketSize=1000;QStartNoAckMode+;qXfer:features:read+;ReverseStep+;ReverseContinue+;vContSupported+"

abbrev pub reply_text : Reply → List ℕ
reply_text Unsupported = []
reply_text Done = codes "OK"
reply_text (Failed number) = codes "E" ++ byte_text number
reply_text (Bytes bytes) = hex_text bytes.now
reply_text (Console bytes) = codes "O" ++ hex_text bytes.now
reply_text Features = features_text
reply_text Motions = codes "vCont;c;C;s;S;r"
reply_text Attached = codes "1"
reply_text (Threads ids) = threads_text ids.now
reply_text NoMoreThreads = codes "l"
reply_text (Stop signal cause thread) = stop_text signal cause thread
reply_text (Part text from count) = part_text text.now from count
