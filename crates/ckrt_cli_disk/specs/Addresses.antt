-- The address that a fault of the guest is about: what its instruction loads from, stores to or jumps to.
use Rattle.std.specs.Prelude.{ℕ, ◌*◌, ◌/◌, List, Option, Some, None, if◌then◌else◌, option_and_then}
use Rattle.ckrt_registers.specs.Registers.{Registers, get}
use Rattle.ckrt_rv32i.specs.Decoding.{instruction_of}
use Rattle.ckrt_rv32i.specs.Memory.{is_valid, loaded}
use Rattle.ckrt_rv32i.specs.Words.{word_add_signed}
use Rattle.ckrt_rv32i.specs.declared.instruction.Instr.{Instr}
use Rattle.ckrt_rv32i.specs.declared.instruction.Instr.TheVariants.{Jal, Jalr, Branch, Load, Store}
use Rattle.ckrt_rv32i.specs.declared.memory_bus.Size.TheVariants as size
use Rattle.ckrt_thread.specs.State.{regs_of, thread_of}
use Rattle.ckrt_calls.specs.declared.table.Status.{Status}
use Rattle.ckrt_calls.specs.declared.table.Status.TheVariants as status
use Rattle.ckrt_machine.specs.Steps.{State}

-- of an instruction; of any other there is none (RISC-V unprivileged manual, RV32I 2.5 and 2.6)
abbrev pub address_of : Registers → Instr → Option ℕ
address_of h (Load k rd rs1 offset) = Some (word_add_signed (get h rs1) offset)
address_of h (Store s rs1 rs2 offset) = Some (word_add_signed (get h rs1) offset)
address_of h (Jal rd offset) = Some (word_add_signed h.pc offset)
address_of h (Jalr rd rs1 offset) = Some (word_add_signed (get h rs1) offset / 2 * 2)
address_of h (Branch c rs1 rs2 offset) = Some (word_add_signed h.pc offset)
address_of h i = None

-- the instruction at a pc, where there is one
abbrev pub instruction_at : List ℕ → ℕ → Option Instr
instruction_at memory pc = if is_valid memory pc size.Word then instruction_of (loaded memory pc size.Word) else None

-- of the instruction that a thread with these registers didn't get beyond
abbrev pub address_with : List ℕ → Option Registers → Option ℕ
address_with memory None = None
address_with memory (Some h) = option_and_then (address_of h) (instruction_at memory h.pc)

-- of a program's end: a fault changes neither registers nor memory
abbrev pub address_by : Status → State → Option ℕ
address_by (status.Faulted t pc c) s = address_with s.bytes (regs_of (thread_of s.tables.threads t))
address_by _ s = None

abbrev pub fault_address : State → Option ℕ
fault_address s = address_by s.tables.status s
