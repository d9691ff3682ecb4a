-- Which instruction stands at an address, and what a load or a store may be of (this project's choice).
use Rattle.std.specs.Prelude.{ℕ, ◌&&◌, Bool, if◌then◌else◌, Option, None, List}
use Rattle.ckrt_rv32i.specs.Decoding.{instruction_of}
use Rattle.ckrt_rv32i.specs.Memory.{is_aligned, is_valid, loaded}
use Rattle.ckrt_rv32i.specs.declared.instruction.Instr.{Instr}
use Rattle.ckrt_rv32i.specs.declared.memory_bus.Size.{Size}
use Rattle.ckrt_rv32i.specs.declared.memory_bus.Size.TheVariants as size

-- the instruction at an address
abbrev pub fetched : List ℕ → (pc : ℕ) → Option Instr
fetched bytes pc =
    if is_valid bytes pc size.Word then instruction_of (loaded bytes pc size.Word) else None

-- a load or a store is made only where the address is one of the memory, and aligned
abbrev pub may_access : List ℕ → (address : ℕ) → Size → Bool
may_access bytes a z = is_aligned a z && is_valid bytes a z
