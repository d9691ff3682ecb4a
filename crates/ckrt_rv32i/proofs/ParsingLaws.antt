-- What is read of an instruction's text is the instruction; so no two instructions have one text.
use Rattle.std.proofs.Common.{◌≡◌, ℕ, zero, suc, ◌+◌, ◌-◌, ◌*◌, ◌%◌, ◌^◌, ◌<◌, ◌≤◌, ◌==◌, ◌&&◌, min, not, Bool, true, false, ℤ, pos, negsuc, List, [], ◌∷◌, ◌++◌, length, take, drop, get_or, Option, Some, None, ◌↔◌, codes, subst, refl, sym, ap, ◌∙◌, append_assoc, append-nil, arith, rules}
use Rattle.std.specs.Fmt.{decimal, signed_decimal}
use Rattle.std.specs.Prelude.{unsigned_abs}
use Rattle.std.proofs.lemmas.Bool.Decides.{nat_tests}
use Rattle.std.proofs.lemmas.Str.Parse.{IsNumeralModel, numerals_by_fold}
use Rattle.std.proofs.lemmas.Fmt.{digits_decimal, digits_value-decimal, decimal_nonempty}
use Rattle.ckrt_rv32i.specs.Table.{IsInRange}
use Rattle.ckrt_rv32i.specs.Text.{condition_name, load_name, store_name, imm_name, shift_name, alu_name, register, register_number, register_place, registers_number, text_of}
use Rattle.ckrt_rv32i.specs.Reading.{word_of, behind_word, ends_word, is_digit, digits_from, signed, number_at, next_number, from_number, numbers_of, with_numbers, named, read}
use Rattle.ckrt_rv32i.proofs.TableLaws.{FitsHalf}
use Rattle.ckrt_rv32i.proofs.TextLaws.{abs-half}
use Rattle.ckrt_rv32i.specs.declared.parsing.Numbers.{Numbers}
use Rattle.ckrt_rv32i.specs.declared.parsing.Operation.{Operation}
use Rattle.ckrt_rv32i.specs.declared.parsing.Operation.TheVariants as op
use Rattle.ckrt_rv32i.specs.declared.parsing.TheConstants.{NUMBER_LIMIT, OPERATIONS}
use Rattle.ckrt_rv32i.specs.declared.instruction.Instr.{Instr}
use Rattle.ckrt_rv32i.specs.declared.instruction.Instr.TheVariants.{Lui, Auipc, Jal, Jalr, Branch, Load, Store, AluImm, Shift, Alu, Fence, Ecall, Ebreak}
use Rattle.ckrt_rv32i.specs.declared.instruction.Condition.{Condition}
use Rattle.ckrt_rv32i.specs.declared.instruction.Condition.TheVariants as condition
use Rattle.ckrt_rv32i.specs.declared.instruction.LoadKind.{LoadKind}
use Rattle.ckrt_rv32i.specs.declared.instruction.LoadKind.TheVariants as kind
use Rattle.ckrt_rv32i.specs.declared.instruction.ImmOp.{ImmOp}
use Rattle.ckrt_rv32i.specs.declared.instruction.ImmOp.TheVariants as imm
use Rattle.ckrt_rv32i.specs.declared.instruction.ShiftOp.{ShiftOp}
use Rattle.ckrt_rv32i.specs.declared.instruction.ShiftOp.TheVariants as shifted
use Rattle.ckrt_rv32i.specs.declared.instruction.AluOp.{AluOp}
use Rattle.ckrt_rv32i.specs.declared.instruction.AluOp.TheVariants as alu
use Rattle.ckrt_rv32i.specs.declared.memory_bus.Size.{Size}
use Rattle.ckrt_rv32i.specs.declared.memory_bus.Size.TheVariants as size

both : (x y : Bool) → (x && y) ≡ true → (x ≡ true) × (y ≡ true)
both true y h = (refl, h)
both false y h = cc

not_true : (x : Bool) → not x ≡ true → x ≡ false
not_true true h = cc
not_true false h = refl

pub not_both : (b : Bool) → b ≡ false → b ≡ true → ⊥
not_both b f t = cc

-- ---- the name

-- the first n bytes, none a space, before a space or the end
pub split_at_space : (s : List ℕ) (n : ℕ) → n ≤ length s → ((k : ℕ) → k < n → (get_or s k 0 == 32) ≡ false) → ends_word (drop n s) ≡ true → (take n s ≡ word_of s) × (drop n s ≡ behind_word s)
split_at_space [] zero le h e = (refl, refl)
split_at_space [] (suc n) le h e = absurd (omega arith)
split_at_space (b ∷ s) zero le h e = let space : (b == 32) ≡ true = e in (rw space refl, rw space refl)
split_at_space (b ∷ s) (suc n) le h e =
    let first : (b == 32) ≡ false = h 0 (omega arith) in
    let more = split_at_space s n (omega arith) (λ k lt. h (suc k) (omega arith)) e in
    (rw first (ap (λ (t : List ℕ). b ∷ t) more.0), rw first more.1)

-- ---- the numbers

abbrev all_digits : List ℕ → Bool
all_digits [] = true
all_digits (b ∷ bs) = is_digit b && all_digits bs

abbrev value_from : ℕ → List ℕ → ℕ
value_from n [] = n
value_from n (b ∷ bs) = value_from (10 * n + (b - 48)) bs

own : IsNumeralModel (λ ds. all_digits ds ≡ true) (value_from 0)
own = numerals_by_fold _ (search rules) value_from (search rules)

-- whether the bytes are none, or begin with another byte than a digit
abbrev ends_number : List ℕ → Bool
ends_number [] = true
ends_number (b ∷ bs) = not (is_digit b)

value_from-le : (n : ℕ) (ds : List ℕ) → n ≤ value_from n ds
value_from-le n [] = omega arith
value_from-le n (b ∷ bs) = omega (arith, value_from-le (10 * n + (b - 48)) bs)

digits_from-end : (v : ℕ) (rest : List ℕ) → ends_number rest ≡ true → digits_from v rest ≡ (v, rest)
digits_from-end v [] e = refl
digits_from-end v (b ∷ bs) e = let h : is_digit b ≡ false = not_true (is_digit b) e in rw h refl

digits_from-run : (v : ℕ) (ds rest : List ℕ) → all_digits ds ≡ true → ends_number rest ≡ true → value_from v ds ≤ NUMBER_LIMIT → digits_from v (ds ++ rest) ≡ (value_from v ds, rest)
digits_from-run v [] rest d e s = digits_from-end v rest e
digits_from-run v (b ∷ bs) rest d e s =
    let h = both (is_digit b) (all_digits bs) d in
    let small : min (10 * v + (b - 48)) NUMBER_LIMIT ≡ 10 * v + (b - 48) = omega (arith, value_from-le (10 * v + (b - 48)) bs) in
    rw (h.0, small) (digits_from-run (10 * v + (b - 48)) bs rest h.1 e s)

digits_from-decimal : (n : ℕ) (rest : List ℕ) → n ≤ NUMBER_LIMIT → ends_number rest ≡ true → digits_from 0 (decimal n ++ rest) ≡ (n, rest)
digits_from-decimal n rest s e =
    let v : value_from 0 (decimal n) ≡ n = digits_value-decimal own n (omega arith) in
    let run = digits_from-run 0 (decimal n) rest (digits_decimal own n (omega arith)) e (omega arith) in
    rw v at run

from_number-digit : (b : ℕ) (bs : List ℕ) → is_digit b ≡ true → from_number (b ∷ bs) ≡ b ∷ bs
from_number-digit b bs d = rw d refl

number_at-digit : (b : ℕ) (bs : List ℕ) → (b == 45) ≡ false → number_at (b ∷ bs) ≡ signed false (digits_from 0 (b ∷ bs))
number_at-digit b bs d = rw d refl

next_number-digits : (ds rest : List ℕ) → all_digits ds ≡ true → 0 < length ds → next_number (ds ++ rest) ≡ signed false (digits_from 0 (ds ++ rest))
next_number-digits [] rest d l = absurd (omega arith)
next_number-digits (b ∷ bs) rest d l =
    let h : is_digit b ≡ true = (both (is_digit b) (all_digits bs) d).0 in
    let other : (b == 45) ≡ false = grind (arith, nat_tests) in
    ap number_at (from_number-digit b (bs ++ rest) h) ∙ number_at-digit b (bs ++ rest) other

abbrev Fits : ℤ → Type 0
Fits z = unsigned_abs z ≤ NUMBER_LIMIT

next_number-signed : (z : ℤ) (rest : List ℕ) → Fits z → ends_number rest ≡ true → next_number (signed_decimal z ++ rest) ≡ (z, rest)
next_number-signed (pos n) rest s e =
    next_number-digits (decimal n) rest (digits_decimal own n (omega arith)) (decimal_nonempty n (omega arith)) ∙ ap (signed false) (digits_from-decimal n rest s e)
next_number-signed (negsuc n) rest s e = ap (signed true) (digits_from-decimal (suc n) rest s e)

numbers_of-three : (text r s t : List ℕ) (a b c : ℤ) → next_number text ≡ (a, r) → next_number r ≡ (b, s) → next_number s ≡ (c, t) → numbers_of text ≡ record { first = a; second = b; third = c }
numbers_of-three text r s t a b c e f g = rw (e, f, g) refl

-- ---- the operands

-- a number and a comma
next_number-comma : (n : ℕ) (rest : List ℕ) → n ≤ NUMBER_LIMIT → next_number ((decimal n ++ codes ", ") ++ rest) ≡ (pos n, codes ", " ++ rest)
next_number-comma n rest s = ap next_number (append_assoc (decimal n) (codes ", ") rest) ∙ next_number-signed (pos n) (codes ", " ++ rest) s refl

-- the last number
next_number-last : (z : ℤ) → Fits z → next_number (signed_decimal z) ≡ (z, [])
next_number-last z s = ap next_number (sym (append-nil (signed_decimal z))) ∙ next_number-signed z [] s refl

regroup_place : (s d : List ℕ) → ((s ++ codes "(") ++ (codes "x" ++ d)) ++ codes ")" ≡ s ++ (codes "(x" ++ (d ++ codes ")"))
regroup_place s d = ap (λ (t : List ℕ). t ++ codes ")") (append_assoc s (codes "(") (codes "x" ++ d)) ∙ append_assoc s (codes "(x" ++ d) (codes ")")

-- ` xA, IMM`
numbers_of-register_number : (a : ℕ) (z : ℤ) → a < 32 → Fits z → numbers_of (register_number a (signed_decimal z)) ≡ record { first = pos a; second = z; third = pos 0 }
numbers_of-register_number a z r s =
    numbers_of-three (register_number a (signed_decimal z)) (codes ", " ++ signed_decimal z) [] [] _ _ _ (next_number-comma a (signed_decimal z) (omega arith)) (next_number-last z s) refl

-- ` xA, IMM(xB)`
numbers_of-register_place : (a : ℕ) (z : ℤ) (b : ℕ) → a < 32 → Fits z → b < 32 → numbers_of (register_place a z b) ≡ record { first = pos a; second = z; third = pos b }
numbers_of-register_place a z b r s q =
    let last : List ℕ = codes "(x" ++ (decimal b ++ codes ")") in
    let grouped : register_place a z b ≡ register_number a (signed_decimal z ++ last) = ap (register_number a) (regroup_place (signed_decimal z) (decimal b)) in
    ap numbers_of grouped ∙ numbers_of-three (register_number a (signed_decimal z ++ last)) (codes ", " ++ (signed_decimal z ++ last)) last (codes ")") _ _ _
    (next_number-comma a (signed_decimal z ++ last) (omega arith)) (next_number-signed z last s refl) (next_number-signed (pos b) (codes ")") (omega arith) refl)

-- ` xA, xB, IMM`
numbers_of-registers_number : (a b : ℕ) (z : ℤ) → a < 32 → b < 32 → Fits z → numbers_of (registers_number a b (signed_decimal z)) ≡ record { first = pos a; second = pos b; third = z }
numbers_of-registers_number a b z r q s =
    let last : List ℕ = register b ++ codes ", " ++ signed_decimal z in
    numbers_of-three (registers_number a b (signed_decimal z)) (codes ", " ++ last) (codes ", " ++ signed_decimal z) [] _ _ _
    (next_number-comma a last (omega arith)) (next_number-comma b (signed_decimal z) (omega arith)) (next_number-last z s)

-- ` xA, xB, xC`
numbers_of-registers : (a b c : ℕ) → a < 32 → b < 32 → c < 32 → numbers_of (registers_number a b (register c)) ≡ record { first = pos a; second = pos b; third = pos c }
numbers_of-registers a b c r q s =
    let last : List ℕ = register b ++ codes ", " ++ register c in
    numbers_of-three (registers_number a b (register c)) (codes ", " ++ last) (codes ", " ++ register c) [] _ _ _
    (next_number-comma a last (omega arith)) (next_number-comma b (register c) (omega arith)) (next_number-last (pos c) (omega arith))

-- ---- the names

-- the name is read as a whole, and it is the operation's alone
abbrev IsNameOf : Operation → List ℕ → Type 0
IsNameOf op name =
    (((tail : List ℕ) → word_of (name ++ 32 ∷ tail) ≡ name)
    × ((tail : List ℕ) → behind_word (name ++ 32 ∷ tail) ≡ 32 ∷ tail)
    × ((n : Numbers) → named OPERATIONS name n ≡ Some (with_numbers op n)))

lui : IsNameOf op.Lui (codes "lui")
unfolding named
lui = (λ _. refl, λ _. refl, λ _. refl)

auipc : IsNameOf op.Auipc (codes "auipc")
unfolding named
auipc = (λ _. refl, λ _. refl, λ _. refl)

jal : IsNameOf op.Jal (codes "jal")
unfolding named
jal = (λ _. refl, λ _. refl, λ _. refl)

jalr : IsNameOf op.Jalr (codes "jalr")
unfolding named
jalr = (λ _. refl, λ _. refl, λ _. refl)

fence : IsNameOf op.Fence (codes "fence")
unfolding named
fence = (λ _. refl, λ _. refl, λ _. refl)

branch : (c : Condition) → IsNameOf (op.Branch c) (condition_name c)
unfolding named
branch condition.Eq = (λ _. refl, λ _. refl, λ _. refl)
branch condition.Ne = (λ _. refl, λ _. refl, λ _. refl)
branch condition.Lt = (λ _. refl, λ _. refl, λ _. refl)
branch condition.Ge = (λ _. refl, λ _. refl, λ _. refl)
branch condition.Ltu = (λ _. refl, λ _. refl, λ _. refl)
branch condition.Geu = (λ _. refl, λ _. refl, λ _. refl)

load : (k : LoadKind) → IsNameOf (op.Load k) (load_name k)
unfolding named
load kind.Byte = (λ _. refl, λ _. refl, λ _. refl)
load kind.Half = (λ _. refl, λ _. refl, λ _. refl)
load kind.Word = (λ _. refl, λ _. refl, λ _. refl)
load kind.ByteUnsigned = (λ _. refl, λ _. refl, λ _. refl)
load kind.HalfUnsigned = (λ _. refl, λ _. refl, λ _. refl)

store : (s : Size) → IsNameOf (op.Store s) (store_name s)
unfolding named
store size.Byte = (λ _. refl, λ _. refl, λ _. refl)
store size.Half = (λ _. refl, λ _. refl, λ _. refl)
store size.Word = (λ _. refl, λ _. refl, λ _. refl)

immediate : (o : ImmOp) → IsNameOf (op.AluImm o) (imm_name o)
unfolding named
immediate imm.Addi = (λ _. refl, λ _. refl, λ _. refl)
immediate imm.Slti = (λ _. refl, λ _. refl, λ _. refl)
immediate imm.Sltiu = (λ _. refl, λ _. refl, λ _. refl)
immediate imm.Xori = (λ _. refl, λ _. refl, λ _. refl)
immediate imm.Ori = (λ _. refl, λ _. refl, λ _. refl)
immediate imm.Andi = (λ _. refl, λ _. refl, λ _. refl)

shift : (o : ShiftOp) → IsNameOf (op.Shift o) (shift_name o)
unfolding named
shift shifted.Slli = (λ _. refl, λ _. refl, λ _. refl)
shift shifted.Srli = (λ _. refl, λ _. refl, λ _. refl)
shift shifted.Srai = (λ _. refl, λ _. refl, λ _. refl)

registers : (o : AluOp) → IsNameOf (op.Alu o) (alu_name o)
unfolding named
registers alu.Add = (λ _. refl, λ _. refl, λ _. refl)
registers alu.Sub = (λ _. refl, λ _. refl, λ _. refl)
registers alu.Sll = (λ _. refl, λ _. refl, λ _. refl)
registers alu.Slt = (λ _. refl, λ _. refl, λ _. refl)
registers alu.Sltu = (λ _. refl, λ _. refl, λ _. refl)
registers alu.Xor = (λ _. refl, λ _. refl, λ _. refl)
registers alu.Srl = (λ _. refl, λ _. refl, λ _. refl)
registers alu.Sra = (λ _. refl, λ _. refl, λ _. refl)
registers alu.Or = (λ _. refl, λ _. refl, λ _. refl)
registers alu.And = (λ _. refl, λ _. refl, λ _. refl)

-- ---- the text

-- a name and operands, by what each is read as
read-parts : (op : Operation) (name tail : List ℕ) (n : Numbers) → IsNameOf op name → numbers_of (32 ∷ tail) ≡ n → read (name ++ 32 ∷ tail) ≡ Some (with_numbers op n)
read-parts op name tail n (w, b, f) e =
    ap (λ (t : List ℕ). named OPERATIONS t (numbers_of (behind_word (name ++ 32 ∷ tail)))) (w tail)
    ∙ (ap (λ (t : List ℕ). named OPERATIONS name (numbers_of t)) (b tail) ∙ (ap (named OPERATIONS name) e ∙ f n))

-- `NAME xA, IMM`
read-register_number : (op : Operation) (name : List ℕ) (a : ℕ) (z : ℤ) → IsNameOf op name → a < 32 → Fits z → read (name ++ register_number a (signed_decimal z)) ≡ Some (with_numbers op (record { first = pos a; second = z; third = pos 0 }))
read-register_number op name a z h r s = read-parts op name (register a ++ codes ", " ++ signed_decimal z) _ h (numbers_of-register_number a z r s)

-- `NAME xA, IMM(xB)`
read-register_place : (op : Operation) (name : List ℕ) (a : ℕ) (z : ℤ) (b : ℕ) → IsNameOf op name → a < 32 → Fits z → b < 32 → read (name ++ register_place a z b) ≡ Some (with_numbers op (record { first = pos a; second = z; third = pos b }))
read-register_place op name a z b h r s q = read-parts op name (register a ++ codes ", " ++ (signed_decimal z ++ codes "(" ++ register b ++ codes ")")) _ h (numbers_of-register_place a z b r s q)

-- `NAME xA, xB, IMM`
read-registers_number : (op : Operation) (name : List ℕ) (a b : ℕ) (z : ℤ) → IsNameOf op name → a < 32 → b < 32 → Fits z → read (name ++ registers_number a b (signed_decimal z)) ≡ Some (with_numbers op (record { first = pos a; second = pos b; third = z }))
read-registers_number op name a b z h r q s = read-parts op name (register a ++ codes ", " ++ (register b ++ codes ", " ++ signed_decimal z)) _ h (numbers_of-registers_number a b z r q s)

-- `NAME xA, xB, xC`
read-registers : (op : Operation) (name : List ℕ) (a b c : ℕ) → IsNameOf op name → a < 32 → b < 32 → c < 32 → read (name ++ registers_number a b (register c)) ≡ Some (with_numbers op (record { first = pos a; second = pos b; third = pos c }))
read-registers op name a b c h r q s = read-parts op name (register a ++ codes ", " ++ (register b ++ codes ", " ++ register c)) _ h (numbers_of-registers a b c r q s)

-- a register's number is kept by its five bits
low : (r : ℕ) → r < 32 → r % 32 ≡ r
low r h = omega arith

fits : (half : ℕ) (z : ℤ) → 0 < half → half ≤ NUMBER_LIMIT → FitsHalf half z → Fits z
fits half z l m h = let small = abs-half half z l h in omega arith

pub read-text_of : (i : Instr) → IsInRange i → read (text_of i) ≡ Some i
read-text_of (Lui rd imm) (r, s) = read-register_number op.Lui (codes "lui") rd (pos imm) lui r (omega arith) ∙ rw (low rd r) refl
read-text_of (Auipc rd imm) (r, s) = read-register_number op.Auipc (codes "auipc") rd (pos imm) auipc r (omega arith) ∙ rw (low rd r) refl
read-text_of (Jal rd offset) (r, s) = read-register_number op.Jal (codes "jal") rd offset jal r (fits (2 ^ 20) offset (omega arith) (omega arith) s.0) ∙ rw (low rd r) refl
read-text_of (Jalr rd rs1 offset) (r, q, s) = read-register_place op.Jalr (codes "jalr") rd offset rs1 jalr r (fits (2 ^ 11) offset (omega arith) (omega arith) s) q ∙ rw (low rd r, low rs1 q) refl
read-text_of (Branch c rs1 rs2 offset) (r, q, s) = read-registers_number (op.Branch c) (condition_name c) rs1 rs2 offset (branch c) r q (fits (2 ^ 12) offset (omega arith) (omega arith) s.0) ∙ rw (low rs1 r, low rs2 q) refl
read-text_of (Load k rd rs1 offset) (r, q, s) = read-register_place (op.Load k) (load_name k) rd offset rs1 (load k) r (fits (2 ^ 11) offset (omega arith) (omega arith) s) q ∙ rw (low rd r, low rs1 q) refl
read-text_of (Store k rs1 rs2 offset) (r, q, s) = read-register_place (op.Store k) (store_name k) rs2 offset rs1 (store k) q (fits (2 ^ 11) offset (omega arith) (omega arith) s) r ∙ rw (low rs1 r, low rs2 q) refl
read-text_of (AluImm o rd rs1 imm) (r, q, s) = read-registers_number (op.AluImm o) (imm_name o) rd rs1 imm (immediate o) r q (fits (2 ^ 11) imm (omega arith) (omega arith) s) ∙ rw (low rd r, low rs1 q) refl
read-text_of (Shift o rd rs1 shamt) (r, q, s) = read-registers_number (op.Shift o) (shift_name o) rd rs1 (pos shamt) (shift o) r q (omega arith) ∙ rw (low rd r, low rs1 q, low shamt s) refl
read-text_of (Alu o rd rs1 rs2) (r, q, s) = read-registers (op.Alu o) (alu_name o) rd rs1 rs2 (registers o) r q s ∙ rw (low rd r, low rs1 q, low rs2 s) refl
read-text_of (Fence rd rs1 imm) (r, q, s) = read-registers_number op.Fence (codes "fence") rd rs1 (pos imm) fence r q (omega arith) ∙ rw (low rd r, low rs1 q) refl
read-text_of Ecall h = unfold named in refl
read-text_of Ebreak h = unfold named in refl

-- no two instructions have one text
pub one_text : (i j : Instr) → IsInRange i → IsInRange j → text_of i ≡ text_of j → i ≡ j
one_text i j p q e = let same : Some i ≡ Some j = sym (read-text_of i p) ∙ (ap read e ∙ read-text_of j q) in cc

-- what `parse_instr` ensures, where an instruction was read that has this text
pub parsed : (t : List ℕ) (i : Instr) → IsInRange i → t ≡ text_of i → (j : Instr) → (Some i ≡ Some j) ↔ (IsInRange j × (t ≡ text_of j))
parsed t i p e j =
    let IsText : Instr → Type 0 = λ k. IsInRange k × (t ≡ text_of k) in
    (λ s. let same : i ≡ j = cc in subst IsText same (p, e), λ h. ap Some (one_text i j p h.0 (sym e ∙ h.1)))

-- and where none was read, or another's text
pub not_parsed : (t : List ℕ) (o : Option Instr) → read t ≡ o → ((i : Instr) → o ≡ Some i → ¬ (IsInRange i × (t ≡ text_of i))) → (j : Instr) → (None ≡ Some j) ↔ (IsInRange j × (t ≡ text_of j))
not_parsed t o e none j = (λ s. absurd (cc), λ h. absurd (none j (sym e ∙ (ap read h.1 ∙ read-text_of j h.0)) h))
