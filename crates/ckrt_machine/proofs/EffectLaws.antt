-- No instruction stands at the gates, and each leads to a multiple of 4.
use Rattle.std.proofs.Common.{◌≡◌, ℕ, ◌%◌, ◌<◌, ◌≤◌, ◌==◌, not, List, length, Bool, true, false, Option, Some, None, ap, refl, arith, cond}
use Rattle.std.proofs.lemmas.Bool.Decides.{nat_tests}
use Rattle.ckrt_memory.specs.Pages.{IsMemorySize}
use Rattle.ckrt_registers.specs.Registers.{Registers, get}
use Rattle.ckrt_rv32i.specs.Memory.{is_valid, is_aligned, loaded, stored}
use Rattle.ckrt_rv32i.specs.Decoding.{instruction_of}
use Rattle.ckrt_rv32i.specs.Effect.{Effect, instruction_step, performed, effect, fault, jump, load_effect, store_effect, load_size, holds, following}
use Rattle.ckrt_rv32i.specs.declared.instruction.Instr.{Instr}
use Rattle.ckrt_rv32i.specs.declared.instruction.Instr.TheVariants.{Lui, Auipc, Jal, Jalr, Branch, Load, Store, AluImm, Shift, Alu, Fence, Ecall, Ebreak}
use Rattle.ckrt_rv32i.specs.declared.instruction.LoadKind.{LoadKind}
use Rattle.ckrt_rv32i.specs.declared.memory_bus.Size.{Size}
use Rattle.ckrt_rv32i.specs.declared.memory_bus.Size.TheVariants as size
use Rattle.ckrt_rv32i.specs.declared.execution.Outcome.{Outcome}
use Rattle.ckrt_rv32i.specs.declared.execution.Outcome.TheVariants.{Next, Call, Fault}
use Rattle.ckrt_rv32i.specs.declared.execution.Cause.{Cause}
use Rattle.ckrt_rv32i.specs.declared.execution.Cause.TheVariants as cause

pub gate_faults : (h : Registers) (m : List ℕ) → length m < 268435456 → 4294967280 ≤ h.pc → (instruction_step h m).outcome ≡ Fault cause.FetchRange
gate_faults h m l g =
    let v : is_valid m h.pc size.Word ≡ false = grind (arith, nat_tests) in
    ap (λ b. (cond b (performed (instruction_of (loaded m h.pc size.Word)) h m) (fault cause.FetchRange h m)).outcome) v

-- a memory ends far below the gates
pub small_memory : (size : ℕ) → IsMemorySize size → size < 268435456
small_memory size h = let most = h.2 in omega arith

-- THE PC STAYS A MULTIPLE OF 4

record IsAligned (e : Effect) : Type 0 where
  pc : e.registers.pc % 4 ≡ 0

either : (b : Bool) (x y : Effect) → IsAligned x → IsAligned y → IsAligned (cond b x y)
either true x y p q = p
either false x y p q = q

-- an effect after which the pc is where it was, or at the next instruction
aligned_on : (h g : Registers) (m : List ℕ) (o : Outcome) → h.pc % 4 ≡ 0 → g.pc ≡ following h → IsAligned (record { outcome = o; registers = g; bytes = m })
aligned_on h g m o a e = record { pc = omega arith }

aligned_fault : (c : Cause) (h : Registers) (m : List ℕ) → h.pc % 4 ≡ 0 → IsAligned (fault c h m)
aligned_fault c h m a = record { pc = a }

jumped : (target : ℕ) (x : List ℕ) (h : Registers) (m : List ℕ) (b : Bool) → (target % 4 == 0) ≡ b → h.pc % 4 ≡ 0 → IsAligned (cond b (record { outcome = Next; registers = record { pc = target; x = x }; bytes = m }) (fault cause.JumpMisaligned h m))
jumped target x h m true e a = record { pc = grind (arith, nat_tests) }
jumped target x h m false e a = aligned_fault cause.JumpMisaligned h m a

aligned_jump : (target : ℕ) (x : List ℕ) (h : Registers) (m : List ℕ) → h.pc % 4 ≡ 0 → IsAligned (jump target x h m)
aligned_jump target x h m a = jumped target x h m (target % 4 == 0) refl a

aligned_load : (k : LoadKind) (rd i : ℕ) (h : Registers) (m : List ℕ) → h.pc % 4 ≡ 0 → IsAligned (load_effect k rd i h m)
aligned_load k rd i h m a =
    either (not (is_aligned i (load_size k))) _ _ (aligned_fault cause.LoadMisaligned h m a)
    (either (not (is_valid m i (load_size k))) _ _ (aligned_fault cause.LoadRange h m a) (aligned_on h _ m Next a refl))

aligned_store : (s : Size) (i v : ℕ) (h : Registers) (m : List ℕ) → h.pc % 4 ≡ 0 → IsAligned (store_effect s i v h m)
aligned_store s i v h m a =
    either (not (is_aligned i s)) _ _ (aligned_fault cause.StoreMisaligned h m a)
    (either (not (is_valid m i s)) _ _ (aligned_fault cause.StoreRange h m a) (aligned_on h _ (stored m i s v) Next a refl))

aligned_effect : (i : Instr) (h : Registers) (m : List ℕ) → h.pc % 4 ≡ 0 → IsAligned (effect i h m)
aligned_effect (Lui rd imm) h m a = aligned_on h _ m Next a refl
aligned_effect (Auipc rd imm) h m a = aligned_on h _ m Next a refl
aligned_effect (Jal rd offset) h m a = aligned_jump _ _ h m a
aligned_effect (Jalr rd rs1 offset) h m a = aligned_jump _ _ h m a
aligned_effect (Branch c rs1 rs2 offset) h m a = either (holds c (get h rs1) (get h rs2)) _ _ (aligned_jump _ _ h m a) (aligned_on h _ m Next a refl)
aligned_effect (Load k rd rs1 offset) h m a = aligned_load k rd _ h m a
aligned_effect (Store s rs1 rs2 offset) h m a = aligned_store s _ _ h m a
aligned_effect (AluImm op rd rs1 imm) h m a = aligned_on h _ m Next a refl
aligned_effect (Shift op rd rs1 amount) h m a = aligned_on h _ m Next a refl
aligned_effect (Alu op rd rs1 rs2) h m a = aligned_on h _ m Next a refl
aligned_effect (Fence rd rs1 imm) h m a = aligned_on h _ m Next a refl
aligned_effect Ecall h m a = aligned_on h _ m Call a refl
aligned_effect Ebreak h m a = aligned_fault cause.Breakpoint h m a

aligned_performed : (o : Option Instr) (h : Registers) (m : List ℕ) → h.pc % 4 ≡ 0 → IsAligned (performed o h m)
aligned_performed None h m a = aligned_fault cause.Illegal h m a
aligned_performed (Some i) h m a = aligned_effect i h m a

aligned_after : (h : Registers) (m : List ℕ) → h.pc % 4 ≡ 0 → IsAligned (instruction_step h m)
aligned_after h m a = either (is_valid m h.pc size.Word) _ _ (aligned_performed (instruction_of (loaded m h.pc size.Word)) h m a) (aligned_fault cause.FetchRange h m a)

pub aligned_step : (h : Registers) (m : List ℕ) → h.pc % 4 ≡ 0 → (instruction_step h m).registers.pc % 4 ≡ 0
aligned_step h m a = (aligned_after h m a).pc
