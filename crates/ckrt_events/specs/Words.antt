-- The words of a line, and the numbers that words write.
use Rattle.std.specs.Prelude.{ℕ, ◌+◌, ◌-◌, ◌*◌, ◌==◌, ◌||◌, ◌&&◌, nat_le, Bool, true, false, not, if◌then◌else◌, List, [], ◌∷◌, filter, Result, Ok, Err}
use Rattle.std.specs.List.{onto_first}
use Rattle.ckrt_events.specs.declared.command.LineFault.{LineFault}
use Rattle.ckrt_events.specs.declared.command.LineFault.TheVariants.{Number, Range}

-- a space or a tab
abbrev pub is_blank : ℕ → Bool
is_blank b = (b == 32) || (b == 9)

-- the parts between the blanks of a line, empty ones too, with a byte more at the line's front
abbrev pub part_byte : ℕ → (blank : Bool) → List (List ℕ) → List (List ℕ)
part_byte b true parts = [] ∷ parts
part_byte b false parts = onto_first b parts

abbrev pub parts_of : List ℕ → List (List ℕ)
parts_of [] = [] ∷ []
parts_of (b ∷ bs) = part_byte b (is_blank b) (parts_of bs)

abbrev pub is_filled : List ℕ → Bool
is_filled [] = false
is_filled (b ∷ bs) = true

-- the words of a line, in order: its longest runs of bytes other than space and tab, which are the parts that aren't empty
abbrev pub words_of : List ℕ → List (List ℕ)
words_of line = filter is_filled (parts_of line)

-- whether the bytes are none, or begin with a blank
abbrev pub ends_word : List ℕ → Bool
ends_word [] = true
ends_word (b ∷ bs) = is_blank b

-- whether the bytes are none, or begin with a word
abbrev pub begins_word : List ℕ → Bool
begins_word [] = true
begins_word (b ∷ bs) = not (is_blank b)

-- a byte from '0' to '9'
abbrev pub is_digit : ℕ → Bool
is_digit b = nat_le 48 b && nat_le b 57

abbrev pub all_digits : List ℕ → Bool
all_digits [] = true
all_digits (b ∷ bs) = is_digit b && all_digits bs

-- the number that n goes on to by these digits
abbrev pub value_from : ℕ → List ℕ → ℕ
value_from n [] = n
value_from n (b ∷ bs) = value_from (10 * n + (b - 48)) bs

-- the number that digits write
abbrev pub value_of : List ℕ → ℕ
value_of word = value_from 0 word

-- the number that a word writes, where it is one from low to high
abbrev pub number_in : ℕ → ℕ → List ℕ → Result ℕ LineFault
number_in low high word =
    if all_digits word then (if nat_le low (value_of word) && nat_le (value_of word) high then Ok (value_of word) else Err Range)
    else Err Number
