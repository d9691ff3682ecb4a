-- Which bits of a result hang on bits that nothing has stored: one row for each kind of instruction (this project's choice, after Seward and
-- Nethercote, Using Valgrind to detect undefined value errors with bit-precision, 2005).
use Rattle.std.specs.Prelude.{ℕ, ◌*◌, ◌%◌, ◌==◌, not, nat_le, Bool, ◌&&◌, if◌then◌else◌, bit_and, bit_or, bit_xor}
use Rattle.ckrt_rv32i.specs.Effect.{alu_result, extended}
use Rattle.ckrt_rv32i.specs.Words.{is_less, one_if}
use Rattle.ckrt_rv32i.specs.declared.instruction.AluOp.{AluOp}
use Rattle.ckrt_rv32i.specs.declared.instruction.AluOp.TheVariants as alu
use Rattle.ckrt_rv32i.specs.declared.instruction.Condition.{Condition}
use Rattle.ckrt_rv32i.specs.declared.instruction.Condition.TheVariants as condition
use Rattle.ckrt_rv32i.specs.declared.instruction.ImmOp.{ImmOp}
use Rattle.ckrt_rv32i.specs.declared.instruction.ImmOp.TheVariants as imm
use Rattle.ckrt_rv32i.specs.declared.instruction.LoadKind.{LoadKind}
use Rattle.ckrt_rv32i.specs.declared.instruction.LoadKind.TheVariants as load
use Rattle.ckrt_rv32i.specs.declared.instruction.ShiftOp.{ShiftOp}
use Rattle.ckrt_rv32i.specs.declared.instruction.ShiftOp.TheVariants as shift
use Rattle.ckrt_rv32i.specs.declared.memory_bus.Size.{Size}
use Rattle.ckrt_rv32i.specs.declared.memory_bus.Size.TheVariants as size
use Rattle.ckrt_look_values.specs.declared.bits.Operand.{Operand}

abbrev pub ALL : ℕ
ALL = 4294967295

abbrev pub complement : ℕ → ℕ
complement m = bit_xor m ALL

-- what is unknown in one of two operands
abbrev pub some : (a b : Operand) → ℕ
some a b = bit_or a.unknown b.unknown

-- the least and the greatest word that an operand may be
abbrev pub low : Operand → ℕ
low a = bit_and a.value (complement a.unknown)

abbrev pub high : Operand → ℕ
high a = bit_or a.value a.unknown

-- its order as unsigned is that of the operand as signed
abbrev pub flipped : Operand → Operand
flipped a = record { value = bit_xor a.value 2147483648; unknown = a.unknown }

-- COMPARISONS whose outcome isn't the same whatever the unknown bits are

abbrev pub is_less_open : (a b : Operand) → Bool
is_less_open a b = is_less (low a) (high b) && nat_le (low b) (high a)

abbrev pub is_equality_open : (a b : Operand) → Bool
is_equality_open a b =
    not (some a b == 0) && bit_and (bit_xor a.value b.value) (complement (some a b)) == 0

abbrev pub is_open : Condition → (a b : Operand) → Bool
is_open condition.Eq a b = is_equality_open a b
is_open condition.Ne a b = is_equality_open a b
is_open condition.Lt a b = is_less_open (flipped a) (flipped b)
is_open condition.Ge a b = is_less_open (flipped a) (flipped b)
is_open condition.Ltu a b = is_less_open a b
is_open condition.Geu a b = is_less_open a b

-- RESULTS

-- what is shifted: its unknown bits are, too
abbrev pub shifted_unknown : AluOp → (a b : Operand) → ℕ
shifted_unknown op a b = if b.unknown % 32 == 0 then alu_result op a.unknown b.value else ALL

-- a sum or a difference: where an operand is unknown, or the least outcome and the greatest one differ by a carry
abbrev pub spread : (a b : Operand) → (least greatest : ℕ) → ℕ
spread a b least greatest = bit_or (some a b) (bit_xor least greatest)

-- a 0 in one operand makes the bit of `and` known, and a 1 that of `or`
abbrev pub alu_unknown : AluOp → (a b : Operand) → ℕ
alu_unknown alu.Add a b =
    spread a b (alu_result alu.Add (low a) (low b)) (alu_result alu.Add (high a) (high b))
alu_unknown alu.Sub a b =
    spread a b (alu_result alu.Sub (low a) (high b)) (alu_result alu.Sub (high a) (low b))
alu_unknown alu.Xor a b = some a b
alu_unknown alu.And a b = bit_and (bit_and (some a b) (high a)) (high b)
alu_unknown alu.Or a b =
    bit_and (bit_and (some a b) (complement (low a))) (complement (low b))
alu_unknown alu.Slt a b = one_if (is_less_open (flipped a) (flipped b))
alu_unknown alu.Sltu a b = one_if (is_less_open a b)
alu_unknown alu.Sll a b = shifted_unknown alu.Sll a b
alu_unknown alu.Srl a b = shifted_unknown alu.Srl a b
alu_unknown alu.Sra a b = shifted_unknown alu.Sra a b

-- with an immediate: the same of an operand that is known
abbrev pub op_of : ImmOp → AluOp
op_of imm.Addi = alu.Add
op_of imm.Slti = alu.Slt
op_of imm.Sltiu = alu.Sltu
op_of imm.Xori = alu.Xor
op_of imm.Ori = alu.Or
op_of imm.Andi = alu.And

abbrev pub shift_of : ShiftOp → AluOp
shift_of shift.Slli = alu.Sll
shift_of shift.Srli = alu.Srl
shift_of shift.Srai = alu.Sra

-- LOADS AND STORES, of the word at an address

-- from where an access is in its word on
abbrev pub from_here : (address unknown : ℕ) → ℕ
from_here a m = alu_result alu.Srl m (8 * (a % 4))

abbrev pub up_to_here : (address unknown : ℕ) → ℕ
up_to_here a m = alu_result alu.Sll m (8 * (a % 4))

-- a load extends unknown bits as it does those of a value
abbrev pub loaded_unknown : LoadKind → (address unknown : ℕ) → ℕ
loaded_unknown load.Byte a m = extended load.Byte (from_here a m % 256)
loaded_unknown load.Half a m = extended load.Half (from_here a m % 65536)
loaded_unknown load.ByteUnsigned a m = from_here a m % 256
loaded_unknown load.HalfUnsigned a m = from_here a m % 65536
loaded_unknown load.Word a m = m

abbrev pub ones : Size → ℕ
ones size.Byte = 255
ones size.Half = 65535
ones size.Word = ALL

-- a store of what has these unknown bits, where the word had those
abbrev pub stored_unknown : Size → (address stored unknown : ℕ) → ℕ
stored_unknown z a n m =
    bit_or (bit_and m (complement (up_to_here a (ones z))))
    (bit_and (up_to_here a n) (up_to_here a (ones z)))
