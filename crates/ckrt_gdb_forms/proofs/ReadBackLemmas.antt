-- What is written reads back.
use Rattle.std.proofs.Common.{◌≡◌, ℕ, zero, suc, ◌+◌, ◌-◌, ◌*◌, ◌/◌, ◌%◌, ◌^◌, ◌<◌, ◌≤◌, ◌==◌, ◌||◌, ◌&&◌, not, nat_le, nat_lt, Bool, true, false, if◌then◌else◌, ◌⊎◌, inl, inr, List, [], ◌∷◌, ◌++◌, map, length, length-append, take, drop, append_assoc, append-nil, Option, Some, Ok, refl, sym, ◌∙◌, ap, subst, arith, eq-eqb, eqb-true, lt-ltb}
use Rattle.std.specs.Prelude.{bit_xor, codes, slice_index}
use Rattle.std.specs.Int.Digits.{AllBelowBase, digits_of, number_from_digits, number_from_digits_after}
use Rattle.std.proofs.lemmas.Int.Digits.{all_below_base_digits_of, number_after_ge, number_digits_of}
use Rattle.hex.specs.Hex.{IsBytes, decode_of, encode_lower, encode_with, hex_digit_value, lower_digits}
use Rattle.hex.proofs.HexLemmas.{IsDigits-lower_digits, decode_of-encode_lower}
use Rattle.ckrt_gdb_forms.specs.declared.frame.Stage.TheVariants.{Payload}
use Rattle.ckrt_gdb_forms.specs.declared.reply.Cause.{Cause}
use Rattle.ckrt_gdb_forms.specs.declared.reply.Cause.TheVariants.{Stopped, Written, Read, Accessed, Begin, End}
use Rattle.ckrt_gdb_forms.specs.declared.reply.Reply.{Reply}
use Rattle.ckrt_gdb_forms.specs.declared.reply.Reply.TheVariants.{Unsupported, Done, Failed, Bytes, Console, Features, Motions, Attached, Threads, NoMoreThreads, Stop, Part}
use Rattle.ckrt_gdb_forms.specs.Framing.{Line, checksum, frame_of, is_checksum, is_value, two_digits}
use Rattle.ckrt_gdb_forms.specs.Numbers.{byte_text, digit_of, digits_text, hex_text, number_of, number_onto, number_text, with_digit}
use Rattle.ckrt_gdb_forms.specs.Replies.{address_text, cause_text, escape, escaped, ids_text, is_special, part_count, part_sign, part_text, reply_text, why_text}
use Rattle.ckrt_gdb_forms.specs.ReadBack.{hear, is_plain, is_plain_byte, packet_heard, unescaped}

both : (x y : Bool) → (x && y) ≡ true → (x ≡ true) × (y ≡ true)
both true y h = (refl, h)
both false y h = cc

neither : (x y : Bool) → not (x || y) ≡ true → (x ≡ false) × (y ≡ false)
neither true y h = cc
neither false true h = cc
neither false false h = (refl, refl)

either : (x y : Bool) → (x || y) ≡ true → (x ≡ true) ⊎ (y ≡ true)
either true y h = inl refl
either false y h = inr h

last_false : (x y : Bool) → (x || y) ≡ false → y ≡ false
last_false true y h = cc
last_false false y h = h

first_false : (x y : Bool) → (x || y) ≡ false → x ≡ false
first_false true y h = cc
first_false false y h = refl

-- PLAIN BYTES

plain-append : (front back : List ℕ) → is_plain front ≡ true → is_plain back ≡ true → is_plain (front ++ back) ≡ true
plain-append [] back p q = q
plain-append (b ∷ front) back p q =
    let e = both (is_plain_byte b) (is_plain front) p in rw (e.0, plain-append front back e.1 q) refl

plain_at : (bytes : List ℕ) (i : ℕ) → is_plain bytes ≡ true → is_plain_byte (slice_index bytes i) ≡ true
plain_at [] i p = refl
plain_at (b ∷ bytes) zero p = (both (is_plain_byte b) (is_plain bytes) p).0
plain_at (b ∷ bytes) (suc i) p = plain_at bytes i (both (is_plain_byte b) (is_plain bytes) p).1

digit_plain : (value : ℕ) → is_plain_byte (digit_of value) ≡ true
digit_plain value = plain_at lower_digits value refl

two_plain : (a b : ℕ) → is_plain_byte a ≡ true → is_plain_byte b ≡ true → is_plain (a ∷ b ∷ []) ≡ true
two_plain a b p q = rw (p, q) refl

byte_plain : (b : ℕ) → is_plain (byte_text b) ≡ true
byte_plain b = two_plain (digit_of (b / 16)) (digit_of (b % 16)) (digit_plain (b / 16)) (digit_plain (b % 16))

hex_plain : (bytes : List ℕ) → is_plain (hex_text bytes) ≡ true
hex_plain [] = refl
hex_plain (b ∷ bytes) = plain-append (byte_text b) (hex_text bytes) (byte_plain b) (hex_plain bytes)

digits_plain : (digits : List ℕ) → is_plain (map digit_of digits) ≡ true
digits_plain [] = refl
digits_plain (d ∷ digits) = rw (digit_plain d, digits_plain digits) refl

digits_text_plain : (digits : List ℕ) → is_plain (digits_text digits) ≡ true
digits_text_plain [] = refl
digits_text_plain (d ∷ digits) = digits_plain (d ∷ digits)

number_plain : (n : ℕ) → is_plain (number_text n) ≡ true
unfolding number_text
number_plain n = digits_text_plain (digits_of 16 n)

address_plain : (word : List ℕ) (address : ℕ) → is_plain word ≡ true → is_plain (address_text word address) ≡ true
address_plain word address p =
    plain-append word (number_text address ++ codes ";") p (plain-append (number_text address) (codes ";") (number_plain address) refl)

cause_plain : (cause : Cause) → is_plain (cause_text cause) ≡ true
cause_plain Stopped = refl
cause_plain (Written address) = address_plain (codes "watch:") address refl
cause_plain (Read address) = address_plain (codes "rwatch:") address refl
cause_plain (Accessed address) = address_plain (codes "awatch:") address refl
cause_plain Begin = refl
cause_plain End = refl

why_plain : (cause : Cause) (thread : ℕ) → is_plain (why_text cause thread) ≡ true
why_plain cause thread =
    plain-append (cause_text cause) (address_text (codes "thread:") thread) (cause_plain cause) (address_plain (codes "thread:") thread refl)

ids_plain : (ids : List ℕ) → is_plain (ids_text ids) ≡ true
ids_plain [] = refl
ids_plain (id ∷ []) = number_plain id
ids_plain (id ∷ next ∷ more) = plain-append (number_text id) (44 ∷ ids_text (next ∷ more)) (number_plain id) (ids_plain (next ∷ more))

-- a special byte is one of four
data Special : ℕ → Type 0 where
  hash : Special 35
  dollar : Special 36
  star : Special 42
  brace : Special 125

special : (b : ℕ) → is_special b ≡ true → Special b
special b h =
    elim (either ((b == 35) || (b == 36) || (b == 42)) (b == 125) h) [
      | inr d ↦ subst Special (sym (eqb-true b 125 d)) brace
      | inl rest ↦
          elim (either ((b == 35) || (b == 36)) (b == 42) rest) [
            | inr c ↦ subst Special (sym (eqb-true b 42 c)) star
            | inl front ↦
                elim (either (b == 35) (b == 36) front) [
                  | inl a ↦ subst Special (sym (eqb-true b 35 a)) hash
                  | inr e ↦ subst Special (sym (eqb-true b 36 e)) dollar
                ]
          ]
    ]

turned_plain : (b : ℕ) → Special b → is_plain_byte (b - 32) ≡ true
turned_plain b hash = refl
turned_plain b dollar = refl
turned_plain b star = refl
turned_plain b brace = refl

turned_back : (b : ℕ) → Special b → bit_xor (b - 32) 32 ≡ b
turned_back b hash = refl
turned_back b dollar = refl
turned_back b star = refl
turned_back b brace = refl

-- what is written in place of a byte, by whether it is special
abbrev written : ℕ → Bool → List ℕ
written b is = if is then (125 ∷ (b - 32) ∷ []) else (b ∷ [])

unspecial_plain : (b : ℕ) → is_special b ≡ false → is_plain_byte b ≡ true
unspecial_plain b h =
    let front = first_false ((b == 35) || (b == 36)) (b == 42) (first_false ((b == 35) || (b == 36) || (b == 42)) (b == 125) h) in
    rw front refl

written_plain : (b : ℕ) (is : Bool) → is_special b ≡ is → is_plain (written b is) ≡ true
written_plain b true h = rw (turned_plain b (special b h)) refl
written_plain b false h = rw (unspecial_plain b h) refl

escaped_plain : (bytes : List ℕ) → is_plain (escaped bytes) ≡ true
escaped_plain [] = refl
escaped_plain (b ∷ bytes) = plain-append (escape b) (escaped bytes) (written_plain b (is_special b) refl) (escaped_plain bytes)

sign_plain : (is : Bool) → is_plain (if is then codes "l" else codes "m") ≡ true
sign_plain true = refl
sign_plain false = refl

part_plain : (text : List ℕ) (from count : ℕ) → is_plain (part_text text from count) ≡ true
part_plain text from count =
    plain-append (part_sign (length text) from count) (escaped (take (part_count count) (drop from text)))
    (sign_plain (nat_le (length text) (from + part_count count))) (escaped_plain (take (part_count count) (drop from text)))

pub replies_are_plain : (reply : Reply) → is_plain (reply_text reply) ≡ true
replies_are_plain Unsupported = refl
replies_are_plain Done = refl
replies_are_plain (Failed number) = plain-append (codes "E") (byte_text number) refl (byte_plain number)
replies_are_plain (Bytes bytes) = hex_plain bytes.now
replies_are_plain (Console bytes) = plain-append (codes "O") (hex_text bytes.now) refl (hex_plain bytes.now)
replies_are_plain Features = refl
replies_are_plain Motions = refl
replies_are_plain Attached = refl
replies_are_plain (Threads ids) = plain-append (codes "m") (ids_text ids.now) refl (ids_plain ids.now)
replies_are_plain NoMoreThreads = refl
replies_are_plain (Stop signal cause thread) =
    plain-append (codes "T" ++ byte_text signal) (why_text cause thread) (plain-append (codes "T") (byte_text signal) refl (byte_plain signal)) (why_plain cause thread)
replies_are_plain (Part text from count) = part_plain text.now from count

-- FRAMES

checksum_digits : (payload : List ℕ) → is_checksum (digit_of (checksum payload / 16)) (digit_of (checksum payload % 16)) payload ≡ true
checksum_digits payload =
    let below : checksum payload < 256 = omega arith in
    let high : hex_digit_value (digit_of (checksum payload / 16)) ≡ Some (checksum payload / 16)
    = IsDigits-lower_digits (checksum payload / 16) (omega arith) in
    let low : hex_digit_value (digit_of (checksum payload % 16)) ≡ Some (checksum payload % 16)
    = IsDigits-lower_digits (checksum payload % 16) (omega arith) in
    let whole : 16 * (checksum payload / 16) + checksum payload % 16 ≡ checksum payload = omega arith in
    ap (λ (v : Option ℕ). is_value (two_digits v (hex_digit_value (digit_of (checksum payload % 16)))) (checksum payload)) high
    ∙ ap (λ (v : Option ℕ). is_value (two_digits (Some (checksum payload / 16)) v) (checksum payload)) low
    ∙ eq-eqb (16 * (checksum payload / 16) + checksum payload % 16) (checksum payload) whole

abbrev within : List ℕ → Line
within payload = record { stage = Payload; payload = payload }

hear_byte : (b : ℕ) (bytes payload : List ℕ) → (b == 35) ≡ false → (b == 36) ≡ false → nat_lt (length payload) 4096 ≡ true
    → hear (b ∷ bytes) (within payload) ≡ hear bytes (within (payload ++ b ∷ []))
hear_byte b bytes payload end begin room = rw (begin, end, room) refl

hear_payload : (bytes more payload : List ℕ) → is_plain bytes ≡ true → length payload + length bytes ≤ 4096
    → hear (bytes ++ more) (within payload) ≡ hear more (within (payload ++ bytes))
hear_payload [] more payload plain room = ap (λ (p : List ℕ). hear more (within p)) (sym (append-nil payload))
hear_payload (b ∷ bytes) more payload plain room =
    let parts = both (is_plain_byte b) (is_plain bytes) plain in
    let byte = neither (b == 35) (b == 36) parts.0 in
    let below : length payload < 4096 = omega arith in
    let longer : length (payload ++ b ∷ []) + length bytes ≤ 4096 = omega (arith, length-append payload (b ∷ [])) in
    hear_byte b (bytes ++ more) payload byte.0 byte.1 (lt-ltb (length payload) 4096 below)
    ∙ hear_payload bytes more (payload ++ b ∷ []) parts.1 longer
    ∙ ap (λ (p : List ℕ). hear more (within p)) (append_assoc payload (b ∷ []) bytes)

hear_digits : (high low : ℕ) (payload : List ℕ) → (high == 36) ≡ false → (low == 36) ≡ false → is_checksum high low payload ≡ true
    → hear (35 ∷ high ∷ low ∷ []) (within payload) ≡ packet_heard payload
hear_digits high low payload a b is = rw (a, b, is) refl

digit_begins_none : (value : ℕ) → (digit_of value == 36) ≡ false
digit_begins_none value = (neither (digit_of value == 35) (digit_of value == 36) (digit_plain value)).1

pub frame_reads_back : (payload : List ℕ) (line : Line) → is_plain payload ≡ true → length payload ≤ 4096 → hear (frame_of payload) line ≡ packet_heard payload
frame_reads_back payload line plain fits =
    hear_payload payload (35 ∷ byte_text (checksum payload)) [] plain (omega arith)
    ∙ hear_digits (digit_of (checksum payload / 16)) (digit_of (checksum payload % 16)) payload
    (digit_begins_none (checksum payload / 16)) (digit_begins_none (checksum payload % 16)) (checksum_digits payload)

-- NUMBERS

with_digit-below : (n d : ℕ) → nat_lt n 268435456 ≡ true → with_digit n (Some d) ≡ Some (16 * n + d)
with_digit-below n d h = rw h refl

number_onto-digits : (digits : List ℕ) (n : ℕ) → AllBelowBase 16 digits → number_from_digits_after 16 n digits < 2 ^ 32
    → number_onto (Some n) (map digit_of digits) ≡ Some (number_from_digits_after 16 n digits)
number_onto-digits [] n small fits = refl
number_onto-digits (d ∷ digits) n small fits =
    let value : hex_digit_value (digit_of d) ≡ Some d = IsDigits-lower_digits d small.0 in
    let least : n * 16 + d ≤ number_from_digits_after 16 (n * 16 + d) digits = number_after_ge 16 (n * 16 + d) digits (omega arith) in
    let below : n < 268435456 = omega arith in
    let same : 16 * n + d ≡ n * 16 + d = omega arith in
    ap (λ (v : Option ℕ). number_onto v (map digit_of digits)) (ap (with_digit n) value ∙ with_digit-below n d (lt-ltb n 268435456 below) ∙ ap Some same)
    ∙ number_onto-digits digits (n * 16 + d) small.1 fits

digits_read_back : (digits : List ℕ) (n : ℕ) → 0 < n → number_from_digits 16 digits ≡ n → AllBelowBase 16 digits → n < 2 ^ 32
    → number_of (digits_text digits) ≡ Some n
digits_read_back [] n some e small fits = absurd (omega arith)
digits_read_back (d ∷ digits) n some e small fits =
    let P : ℕ → Type 0 = λ k. k < 2 ^ 32 in
    number_onto-digits (d ∷ digits) 0 small (subst P (sym e) fits) ∙ ap Some e

pub number_reads_back : (n : ℕ) → n < 2 ^ 32 → number_of (number_text n) ≡ Some n
unfolding number_text
number_reads_back zero fits = refl
number_reads_back (suc n) fits =
    digits_read_back (digits_of 16 (suc n)) (suc n) (omega arith) (number_digits_of 16 (suc n) (omega arith))
    (all_below_base_digits_of 16 (suc n) (omega arith)) fits

-- BYTES IN DIGITS

hex_text-encode : (bytes : List ℕ) → hex_text bytes ≡ encode_lower bytes
unfolding encode_with
hex_text-encode [] = refl
hex_text-encode (b ∷ bytes) = ap (λ (more : List ℕ). byte_text b ++ more) (hex_text-encode bytes)

pub bytes_read_back : (bytes : List ℕ) → IsBytes bytes → decode_of (hex_text bytes) ≡ Ok bytes
bytes_read_back bytes are = ap decode_of (hex_text-encode bytes) ∙ decode_of-encode_lower bytes are

-- ESCAPED BYTES

unescaped-plain : (b : ℕ) (more : List ℕ) → (b == 125) ≡ false → unescaped (b ∷ more) ≡ b ∷ unescaped more
unescaped-plain b [] e = refl
unescaped-plain b (c ∷ more) e = rw e refl

written_back : (b : ℕ) (is : Bool) (more : List ℕ) → is_special b ≡ is → unescaped (written b is ++ more) ≡ b ∷ unescaped more
written_back b true more h = ap (λ (c : ℕ). c ∷ unescaped more) (turned_back b (special b h))
written_back b false more h = unescaped-plain b more (last_false ((b == 35) || (b == 36) || (b == 42)) (b == 125) h)

pub escaped_reads_back : (bytes : List ℕ) → unescaped (escaped bytes) ≡ bytes
escaped_reads_back [] = refl
escaped_reads_back (b ∷ bytes) =
    written_back b (is_special b) (escaped bytes) refl ∙ ap (λ (more : List ℕ). b ∷ more) (escaped_reads_back bytes)
