-- Numbers in hexadecimal digits, as the protocol writes them.
use Rattle.std.specs.Prelude.{ℕ, ◌+◌, ◌*◌, ◌/◌, ◌%◌, nat_lt, if◌then◌else◌, List, [], ◌∷◌, ◌++◌, map, slice_index, Option, Some, None}
use Rattle.std.specs.Int.Digits.{digits_of}
use Rattle.hex.specs.Hex.{hex_digit_value, lower_digits}

-- the digit of a value below 16, in lower case
abbrev pub digit_of : ℕ → ℕ
digit_of value = slice_index lower_digits value

-- bytes in two digits each
abbrev pub byte_text : ℕ → List ℕ
byte_text b = digit_of (b / 16) ∷ digit_of (b % 16) ∷ []

abbrev pub hex_text : List ℕ → List ℕ
hex_text [] = []
hex_text (b ∷ bytes) = byte_text b ++ hex_text bytes

-- a number in digits, the highest first, with no zero before others
abbrev pub digits_text : List ℕ → List ℕ
digits_text [] = 48 ∷ []
digits_text (d ∷ digits) = map digit_of (d ∷ digits)

unfoldable pub number_text : ℕ → List ℕ
number_text n = digits_text (digits_of 16 n)

-- the number that n goes on to by a digit, where it is below 2 ^ 32
abbrev pub with_digit : ℕ → Option ℕ → Option ℕ
with_digit n None = None
with_digit n (Some d) = if nat_lt n 268435456 then Some (16 * n + d) else None

-- the number that one goes on to by these digits, of either case
abbrev pub number_onto : Option ℕ → List ℕ → Option ℕ
number_onto None bytes = None
number_onto (Some n) [] = Some n
number_onto (Some n) (b ∷ bytes) = number_onto (with_digit n (hex_digit_value b)) bytes

-- the number below 2 ^ 32 that a word writes in one digit or more
abbrev pub number_of : List ℕ → Option ℕ
number_of [] = None
number_of (b ∷ bytes) = number_onto (Some 0) (b ∷ bytes)
