-- What a step that is no call notes: a load or a store, and what the kit tells of memory. Fetches are no loads.
use Rattle.std.specs.Prelude.{ℕ, ◌+◌, ◌-◌, ◌*◌, ◌/◌, ◌%◌, ◌==◌, not, Bool, if◌then◌else◌, List, [], ◌∷◌, Option, Some, None}
use Rattle.ckrt_registers.specs.Registers.{get}
use Rattle.ckrt_rv32i.specs.Effect.{load_size}
use Rattle.ckrt_rv32i.specs.Memory.{byte_count}
use Rattle.ckrt_rv32i.specs.Words.{word_add_signed}
use Rattle.ckrt_rv32i.specs.declared.instruction.Instr.{Instr}
use Rattle.ckrt_rv32i.specs.declared.instruction.Instr.TheVariants as instr
use Rattle.ckrt_rv32i.specs.declared.instruction.AluOp.{AluOp}
use Rattle.ckrt_rv32i.specs.declared.instruction.AluOp.TheVariants as alu
use Rattle.ckrt_rv32i.specs.declared.memory_bus.Size.{Size}
use Rattle.ckrt_mutex.specs.Mutex.{is_owner, mutex_at}
use Rattle.ckrt_calls.specs.declared.table.Tables.{Tables}
use Rattle.ckrt_machine.specs.Steps.{State}
use Rattle.ckrt_look_recording.specs.Accesses.{fetched, may_access}
use Rattle.ckrt_look_calls.specs.declared.stepping.Stepping.{Stepping}
use Rattle.ckrt_look_heap.specs.declared.block.Access.{Access}
use Rattle.ckrt_look_heap.specs.declared.block.Block.{Block}
use Rattle.ckrt_look_heap.specs.declared.block.Deed.{Deed}
use Rattle.ckrt_look_heap.specs.declared.block.Deed.TheVariants as deed
use Rattle.ckrt_look_calls.specs.declared.moment.Moment.{Moment}
use Rattle.ckrt_look_heap.specs.declared.block.Part.{Part}
use Rattle.ckrt_look_heap.specs.declared.shadow.Note.{Note}
use Rattle.ckrt_look_heap.specs.declared.shadow.Note.TheVariants as note

-- THE KIT'S HEAP has a lock of this name (docs/ABI.md): who owns it may touch what is no block's
abbrev pub HEAP_LOCK : ℕ
HEAP_LOCK = 2

abbrev pub is_in_heap : (t : ℕ) → Tables → Bool
is_in_heap t s = is_owner t (mutex_at HEAP_LOCK s.mutexes)

abbrev pub unless_in_heap : Bool → Note → List Note
unless_in_heap k n = if k then [] else n ∷ []

abbrev pub moment_of : Stepping → Moment
moment_of s = record { place = s.place; thread = s.thread }

-- A LOAD OR A STORE, by where its function returns to, as x1 has it (RISC-V psABI, integer register convention)
abbrev pub access_of : Stepping → Deed → (address : ℕ) → Size → Access
access_of s d a z = record {
  deed = d;
  pc = s.regs.pc;
  link = get s.regs 1;
  address = a;
  size = byte_count z;
  moment = moment_of s;
}

abbrev pub use_at : State → Stepping → Deed → (address : ℕ) → Size → List Note
use_at m s d a z =
    if may_access m.bytes a z
    then unless_in_heap (is_in_heap s.thread m.tables) (note.Use (access_of s d a z))
    else []

-- WHAT THE KIT TELLS, by instructions with rd x0 that do nothing (RV32I, HINT Instructions: SLT and SLTU are left to custom use)

-- SLT: a block is given, by rs1 and rs2. Its words are so many bytes from the multiple of four below rs1 on; as many bytes of the last word
-- aren't the block's as rs1 is above that
abbrev pub block_of : Stepping → (from bytes : ℕ) → Block
block_of s a n = record {
  first = a / 4;
  count = n / 4;
  bytes = 4 * (n / 4) - (4 + a % 4);
  taken = moment_of s;
}

-- SLTU: so many bytes as rs2 says from rs1 on are nobody's; none: the block that begins there is given back
abbrev pub free_of : Stepping → (address : ℕ) → Access
free_of s a = record {
  deed = deed.Free;
  pc = get s.regs 1 - 4;
  link = get s.regs 1;
  address = a;
  size = 0;
  moment = moment_of s;
}

abbrev pub part_at : (from bytes : ℕ) → Part
part_at a n = record { first = a / 4; count = n / 4 }

abbrev pub unowned : State → Stepping → (from bytes : ℕ) → List Note
unowned m s a n =
    if n == 0 then note.GiveBack (free_of s a) (not (is_in_heap s.thread m.tables)) ∷ []
    else note.Disown (part_at a n) (moment_of s) ∷ []

abbrev pub told_by : State → Stepping → AluOp → (from bytes : ℕ) → List Note
told_by m s alu.Slt a n = note.Give (block_of s a n) ∷ []
told_by m s alu.Sltu a n = unowned m s a n
told_by m s _ a n = []

-- AN INSTRUCTION of a thread
abbrev pub of_instruction : State → Stepping → Option Instr → List Note
of_instruction m s (Some (instr.Load k rd rs1 offset)) =
    use_at m s deed.Load (word_add_signed (get s.regs rs1) offset) (load_size k)
of_instruction m s (Some (instr.Store z rs1 rs2 offset)) =
    use_at m s deed.Store (word_add_signed (get s.regs rs1) offset) z
of_instruction m s (Some (instr.Alu op rd rs1 rs2)) =
    if rd == 0 then told_by m s op (get s.regs rs1) (get s.regs rs2) else []
of_instruction m s _ = []

-- what a step notes, if somebody makes it, and it is an instruction
abbrev pub notes : Option Stepping → State → List Note
notes None m = []
notes (Some s) m = of_instruction m s (fetched m.bytes s.regs.pc)
