-- How a text of an instruction is read: the name in front of its first space, then its numbers, whatever stands between them.
-- This takes more texts than there are; which of them are an instruction's is a matter of specs/Text.antt alone.
use Rattle.std.specs.Prelude.{ℕ, ◌+◌, ◌-◌, ◌*◌, ◌%◌, ◌==◌, ◌&&◌, ◌||◌, min, nat_le, ℤ, pos, neg_ℤ, unsigned_abs, Bool, true, false, if◌then◌else◌, List, [], ◌∷◌, map, find, Option}
use Rattle.std.specs.Str.{bytes_eq}
use Rattle.ckrt_rv32i.specs.Text.{name_of}
use Rattle.ckrt_rv32i.specs.declared.instruction.Instr.{Instr}
use Rattle.ckrt_rv32i.specs.declared.instruction.Instr.TheVariants as instr
use Rattle.ckrt_rv32i.specs.declared.parsing.Operation.{Operation}
use Rattle.ckrt_rv32i.specs.declared.parsing.Operation.TheVariants.{Lui, Auipc, Jal, Jalr, Branch, Load, Store, AluImm, Shift, Alu, Fence, Ecall, Ebreak}
use Rattle.ckrt_rv32i.specs.declared.parsing.Numbers.{Numbers}
use Rattle.ckrt_rv32i.specs.declared.parsing.TheConstants.{NUMBER_LIMIT, OPERATIONS}

-- ---- the name

-- the bytes in front of the first space
abbrev pub word_of : List ℕ → List ℕ
word_of [] = []
word_of (b ∷ bs) = if b == 32 then [] else b ∷ word_of bs

-- the first space and what follows it
abbrev pub behind_word : List ℕ → List ℕ
behind_word [] = []
behind_word (b ∷ bs) = if b == 32 then b ∷ bs else behind_word bs

-- whether the bytes are none, or begin with a space
abbrev pub ends_word : List ℕ → Bool
ends_word [] = true
ends_word (b ∷ bs) = b == 32

-- ---- the numbers

-- a byte from '0' to '9'
abbrev pub is_digit : ℕ → Bool
is_digit b = nat_le 48 b && nat_le b 57

-- a digit or '-'
abbrev pub begins_number : ℕ → Bool
begins_number b = is_digit b || (b == 45)

-- the text from its first number on
abbrev pub from_number : List ℕ → List ℕ
from_number [] = []
from_number (b ∷ bs) = if begins_number b then b ∷ bs else from_number bs

-- a number that goes on from `value` with the digits in front, where it is below the limit, else the limit; and what follows it
abbrev pub digits_from : ℕ → List ℕ → ℕ × List ℕ
digits_from value [] = (value, [])
digits_from value (b ∷ bs) = if is_digit b then digits_from (min (10 * value + (b - 48)) NUMBER_LIMIT) bs else (value, b ∷ bs)

abbrev pub signed : Bool → ℕ × List ℕ → ℤ × List ℕ
signed is_negative (value, rest) = (if is_negative then neg_ℤ (pos value) else pos value, rest)

-- the number in front of a text, and what follows it
abbrev pub number_at : List ℕ → ℤ × List ℕ
number_at [] = (pos 0, [])
number_at (b ∷ bs) = if b == 45 then signed true (digits_from 0 bs) else signed false (digits_from 0 (b ∷ bs))

abbrev pub next_number : List ℕ → ℤ × List ℕ
next_number text = number_at (from_number text)

abbrev pub numbers_of : List ℕ → Numbers
numbers_of text =
    let a = next_number text in
    let b = next_number a.1 in
    let c = next_number b.1 in
    record { first = a.0; second = b.0; third = c.0 }

-- ---- the instruction

abbrev pub low_bits : ℤ → ℕ
low_bits z = unsigned_abs z % 32

-- the instruction whose text has these numbers, in this order
abbrev pub with_numbers : Operation → Numbers → Instr
with_numbers Lui n = instr.Lui (low_bits n.first) (unsigned_abs n.second)
with_numbers Auipc n = instr.Auipc (low_bits n.first) (unsigned_abs n.second)
with_numbers Jal n = instr.Jal (low_bits n.first) n.second
with_numbers Jalr n = instr.Jalr (low_bits n.first) (low_bits n.third) n.second
with_numbers (Branch c) n = instr.Branch c (low_bits n.first) (low_bits n.second) n.third
with_numbers (Load k) n = instr.Load k (low_bits n.first) (low_bits n.third) n.second
with_numbers (Store s) n = instr.Store s (low_bits n.third) (low_bits n.first) n.second
with_numbers (AluImm op) n = instr.AluImm op (low_bits n.first) (low_bits n.second) n.third
with_numbers (Shift op) n = instr.Shift op (low_bits n.first) (low_bits n.second) (low_bits n.third)
with_numbers (Alu op) n = instr.Alu op (low_bits n.first) (low_bits n.second) (low_bits n.third)
with_numbers Fence n = instr.Fence (low_bits n.first) (low_bits n.second) (unsigned_abs n.third)
with_numbers Ecall n = instr.Ecall
with_numbers Ebreak n = instr.Ebreak

-- the instruction of a name and of the numbers in its text
unfoldable pub named : List Operation → List ℕ → Numbers → Option Instr
named operations name numbers = find (λ i. bytes_eq (name_of i) name) (map (λ op. with_numbers op numbers) operations)

abbrev pub read : List ℕ → Option Instr
read text = named OPERATIONS (word_of text) (numbers_of (behind_word text))
