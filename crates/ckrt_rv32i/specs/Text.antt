-- The text of an instruction: names as in the RISC-V unprivileged manual, RV32I 2.1, in lower case, and one text each (this project's own format).
-- Registers are x0 to x31, numbers are decimal, with '-' where negative; an offset is in bytes.
use Rattle.std.specs.Prelude.{ℕ, ℤ, List, [], ◌++◌, codes, decimal}
use Rattle.std.specs.Fmt.{signed_decimal}
use Rattle.ckrt_rv32i.specs.declared.instruction.Instr.{Instr}
use Rattle.ckrt_rv32i.specs.declared.instruction.Instr.TheVariants.{Lui, Auipc, Jal, Jalr, Branch, Load, Store, AluImm, Shift, Alu, Fence, Ecall, Ebreak}
use Rattle.ckrt_rv32i.specs.declared.instruction.Condition.{Condition}
use Rattle.ckrt_rv32i.specs.declared.instruction.Condition.TheVariants as condition
use Rattle.ckrt_rv32i.specs.declared.instruction.LoadKind.{LoadKind}
use Rattle.ckrt_rv32i.specs.declared.instruction.LoadKind.TheVariants as load
use Rattle.ckrt_rv32i.specs.declared.instruction.ImmOp.{ImmOp}
use Rattle.ckrt_rv32i.specs.declared.instruction.ImmOp.TheVariants as imm
use Rattle.ckrt_rv32i.specs.declared.instruction.ShiftOp.{ShiftOp}
use Rattle.ckrt_rv32i.specs.declared.instruction.ShiftOp.TheVariants as shift
use Rattle.ckrt_rv32i.specs.declared.instruction.AluOp.{AluOp}
use Rattle.ckrt_rv32i.specs.declared.instruction.AluOp.TheVariants as alu
use Rattle.ckrt_rv32i.specs.declared.memory_bus.Size.{Size}
use Rattle.ckrt_rv32i.specs.declared.memory_bus.Size.TheVariants as size

-- ---- the names

abbrev pub condition_name : Condition → List ℕ
condition_name condition.Eq = codes "beq"
condition_name condition.Ne = codes "bne"
condition_name condition.Lt = codes "blt"
condition_name condition.Ge = codes "bge"
condition_name condition.Ltu = codes "bltu"
condition_name condition.Geu = codes "bgeu"

abbrev pub load_name : LoadKind → List ℕ
load_name load.Byte = codes "lb"
load_name load.Half = codes "lh"
load_name load.Word = codes "lw"
load_name load.ByteUnsigned = codes "lbu"
load_name load.HalfUnsigned = codes "lhu"

abbrev pub store_name : Size → List ℕ
store_name size.Byte = codes "sb"
store_name size.Half = codes "sh"
store_name size.Word = codes "sw"

abbrev pub imm_name : ImmOp → List ℕ
imm_name imm.Addi = codes "addi"
imm_name imm.Slti = codes "slti"
imm_name imm.Sltiu = codes "sltiu"
imm_name imm.Xori = codes "xori"
imm_name imm.Ori = codes "ori"
imm_name imm.Andi = codes "andi"

abbrev pub shift_name : ShiftOp → List ℕ
shift_name shift.Slli = codes "slli"
shift_name shift.Srli = codes "srli"
shift_name shift.Srai = codes "srai"

abbrev pub alu_name : AluOp → List ℕ
alu_name alu.Add = codes "add"
alu_name alu.Sub = codes "sub"
alu_name alu.Sll = codes "sll"
alu_name alu.Slt = codes "slt"
alu_name alu.Sltu = codes "sltu"
alu_name alu.Xor = codes "xor"
alu_name alu.Srl = codes "srl"
alu_name alu.Sra = codes "sra"
alu_name alu.Or = codes "or"
alu_name alu.And = codes "and"

abbrev pub name_of : Instr → List ℕ
name_of (Lui rd imm) = codes "lui"
name_of (Auipc rd imm) = codes "auipc"
name_of (Jal rd offset) = codes "jal"
name_of (Jalr rd rs1 offset) = codes "jalr"
name_of (Branch c rs1 rs2 offset) = condition_name c
name_of (Load k rd rs1 offset) = load_name k
name_of (Store s rs1 rs2 offset) = store_name s
name_of (AluImm op rd rs1 imm) = imm_name op
name_of (Shift op rd rs1 shamt) = shift_name op
name_of (Alu op rd rs1 rs2) = alu_name op
name_of (Fence rd rs1 imm) = codes "fence"
name_of Ecall = codes "ecall"
name_of Ebreak = codes "ebreak"

-- ---- the operands

-- xN
abbrev pub register : ℕ → List ℕ
register r = codes "x" ++ decimal r

-- ` xA, IMM`
abbrev pub register_number : ℕ → List ℕ → List ℕ
register_number a imm = codes " " ++ register a ++ codes ", " ++ imm

-- ` xA, IMM(xB)`
abbrev pub register_place : ℕ → ℤ → ℕ → List ℕ
register_place a imm b = register_number a (signed_decimal imm ++ codes "(" ++ register b ++ codes ")")

-- ` xA, xB, IMM`
abbrev pub registers_number : ℕ → ℕ → List ℕ → List ℕ
registers_number a b imm = register_number a (register b ++ codes ", " ++ imm)

-- what stands after the name
abbrev pub operands_of : Instr → List ℕ
-- `NAME xD, IMM`
operands_of (Lui rd imm) = register_number rd (decimal imm)
operands_of (Auipc rd imm) = register_number rd (decimal imm)
operands_of (Jal rd offset) = register_number rd (signed_decimal offset)
-- `NAME xD, IMM(xS)`
operands_of (Jalr rd rs1 offset) = register_place rd offset rs1
operands_of (Load k rd rs1 offset) = register_place rd offset rs1
-- `NAME xT, IMM(xS)`
operands_of (Store s rs1 rs2 offset) = register_place rs2 offset rs1
-- `NAME xS, xT, IMM`
operands_of (Branch c rs1 rs2 offset) = registers_number rs1 rs2 (signed_decimal offset)
-- `NAME xD, xS, IMM`
operands_of (AluImm op rd rs1 imm) = registers_number rd rs1 (signed_decimal imm)
operands_of (Shift op rd rs1 shamt) = registers_number rd rs1 (decimal shamt)
operands_of (Fence rd rs1 imm) = registers_number rd rs1 (decimal imm)
-- `NAME xD, xS, xT`
operands_of (Alu op rd rs1 rs2) = registers_number rd rs1 (register rs2)
operands_of Ecall = []
operands_of Ebreak = []

-- ---- the text

abbrev pub text_of : Instr → List ℕ
text_of i = name_of i ++ operands_of i
