-- The lines of code after a thread's line: what it is about to do (this project's own format).
use Rattle.std.specs.Prelude.{ℕ, ◌+◌, ◌%◌, ◌^◌, List, [], ◌++◌, if◌then◌else◌, codes, Option, Some, None}
use Rattle.ckrt_rv32i.specs.Decoding.{instruction_of}
use Rattle.ckrt_rv32i.specs.Memory.{is_valid, loaded}
use Rattle.ckrt_rv32i.specs.Text.{text_of}
use Rattle.ckrt_rv32i.specs.declared.instruction.Instr.{Instr}
use Rattle.ckrt_rv32i.specs.declared.memory_bus.Size.TheVariants as size
use Rattle.ckrt_inspect.specs.Texts.{hex_text}

-- the text of the instruction that a word encodes
abbrev pub instruction_text : Option Instr → List ℕ
instruction_text None = codes "illegal"
instruction_text (Some i) = text_of i

-- `  ADDR WORD TEXT`
abbrev pub word_line : ℕ → ℕ → List ℕ
word_line address word = codes "  " ++ hex_text address ++ codes " " ++ hex_text word ++ codes " " ++ instruction_text (instruction_of word) ++ codes "\n"

-- the line of the word at an address: none where it isn't in the memory
abbrev pub code_line : List ℕ → ℕ → List ℕ
code_line memory address = if is_valid memory address size.Word then word_line address (loaded memory address size.Word) else []

-- the address that many bytes after a pc; addresses wrap
abbrev pub address_behind : ℕ → ℕ → ℕ
address_behind pc n = (pc + n) % 2 ^ 32

-- the four instructions from a pc on
abbrev pub code_lines : List ℕ → ℕ → List ℕ
code_lines memory pc =
    code_line memory (address_behind pc 0) ++ code_line memory (address_behind pc 4)
    ++ code_line memory (address_behind pc 8) ++ code_line memory (address_behind pc 12)
