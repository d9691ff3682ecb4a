-- The pc stays a multiple of 4.
use Rattle.std.proofs.Common.{◌≡◌, ℕ, ◌*◌, ◌/◌, ◌%◌, not, List, Bool, true, false, cond, arith}
use Rattle.std.proofs.lemmas.Bool.Decides.{nat_tests}
use Rattle.ckrt_registers.specs.Registers.{Registers, get, put}
use Rattle.ckrt_rv32i.specs.Words.{word_add_signed}
use Rattle.ckrt_rv32i.specs.Memory.{is_valid, is_aligned}
use Rattle.ckrt_rv32i.specs.Effect.{Effect, effect, jump, holds, load_size, following}
use Rattle.ckrt_rv32i.specs.declared.instruction.Instr.{Instr}
use Rattle.ckrt_rv32i.specs.declared.instruction.Instr.TheVariants.{Lui, Auipc, Jal, Jalr, Branch, Load, Store, AluImm, Shift, Alu, Fence, Ecall, Ebreak}

either : (b : Bool) (x y : Effect) → x.registers.pc % 4 ≡ 0 → y.registers.pc % 4 ≡ 0 → (cond b x y).registers.pc % 4 ≡ 0
either true x y p q = p
either false x y p q = q

aligned_following : (h : Registers) → h.pc % 4 ≡ 0 → following h % 4 ≡ 0
aligned_following h p = grind (arith)

aligned_jump : (target : ℕ) (x : List ℕ) (h : Registers) (m : List ℕ) → h.pc % 4 ≡ 0 → (jump target x h m).registers.pc % 4 ≡ 0
aligned_jump target x h m p = grind (arith, nat_tests)

aligned_effect : (i : Instr) (h : Registers) (m : List ℕ) → h.pc % 4 ≡ 0 → (effect i h m).registers.pc % 4 ≡ 0
aligned_effect (Lui rd imm) h m p = aligned_following h p
aligned_effect (Auipc rd imm) h m p = aligned_following h p
aligned_effect (Jal rd offset) h m p = aligned_jump (word_add_signed h.pc offset) (put h rd (following h)) h m p
aligned_effect (Jalr rd rs1 offset) h m p = aligned_jump (word_add_signed (get h rs1) offset / 2 * 2) (put h rd (following h)) h m p
aligned_effect (Branch c rs1 rs2 offset) h m p = either (holds c (get h rs1) (get h rs2)) _ _ (aligned_jump (word_add_signed h.pc offset) h.x h m p) (aligned_following h p)
aligned_effect (Load k rd rs1 offset) h m p =
    let a = word_add_signed (get h rs1) offset in
    either (not (is_aligned a (load_size k))) _ _ p (either (not (is_valid m a (load_size k))) _ _ p (aligned_following h p))
aligned_effect (Store s rs1 rs2 offset) h m p =
    let a = word_add_signed (get h rs1) offset in
    either (not (is_aligned a s)) _ _ p (either (not (is_valid m a s)) _ _ p (aligned_following h p))
aligned_effect (AluImm op rd rs1 imm) h m p = aligned_following h p
aligned_effect (Shift op rd rs1 amount) h m p = aligned_following h p
aligned_effect (Alu op rd rs1 rs2) h m p = aligned_following h p
aligned_effect (Fence rd rs1 imm) h m p = aligned_following h p
aligned_effect Ecall h m p = aligned_following h p
aligned_effect Ebreak h m p = p

-- the registers after an effect
pub aligned_after : (i : Instr) (h g : Registers) (m : List ℕ) → h.pc % 4 ≡ 0 → g ≡ (effect i h m).registers → g.pc % 4 ≡ 0
aligned_after i h g m p e = rw e (aligned_effect i h m p)
