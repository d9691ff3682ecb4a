-- The headers of an ELF core file of 32-bit RISC-V, lowest byte first (System V gABI, chapter 4 "ELF Header", chapter 5 "Program Header";
-- RISC-V ELF psABI, "File Header").
use Rattle.std.specs.Prelude.{ℕ, List, [], ◌∷◌, ◌++◌, replicate, codes}
use Rattle.std.specs.List.{flat_map}
use Rattle.std.specs.Int.{w16, w32, to_le_bytes}
use Rattle.ckrt_gdb_forms.specs.declared.elf.Segment.{Segment}

-- NUMBERS of two bytes (Elf32_Half) and of four (Elf32_Word, Elf32_Addr, Elf32_Off)

abbrev pub half : ℕ → List ℕ
half n = to_le_bytes w16 n

abbrev pub word : ℕ → List ℕ
word n = to_le_bytes w32 n

abbrev pub halves : List ℕ → List ℕ
halves ns = flat_map half ns

abbrev pub words : List ℕ → List ℕ
words ns = flat_map word ns

-- THE ELF HEADER, of 52 bytes

abbrev pub ET_CORE : ℕ
ET_CORE = 4

abbrev pub EM_RISCV : ℕ
EM_RISCV = 243

-- e_ident: the four magic bytes, ELFCLASS32, ELFDATA2LSB, EV_CURRENT, ELFOSABI_NONE, and zeros
abbrev pub identification : List ℕ
identification = 0x7f ∷ (codes "ELF" ++ (1 ∷ 1 ∷ 1 ∷ 0 ∷ replicate 8 0))

-- e_type and e_machine; e_version (EV_CURRENT), e_entry (none), e_phoff, e_shoff (none) and e_flags (none); e_ehsize, e_phentsize,
-- e_phnum, and the three numbers of section headers, of which there are none
abbrev pub elf_header : List ℕ
elf_header =
    identification
    ++ halves (ET_CORE ∷ EM_RISCV ∷ [])
    ++ words (1 ∷ 0 ∷ 52 ∷ 0 ∷ 0 ∷ [])
    ++ halves (52 ∷ 32 ∷ 2 ∷ 0 ∷ 0 ∷ 0 ∷ [])

-- A PROGRAM HEADER, of 32 bytes

abbrev pub PT_LOAD : ℕ
PT_LOAD = 1

abbrev pub PT_NOTE : ℕ
PT_NOTE = 4

-- p_type, p_offset, p_vaddr, p_paddr (none), p_filesz, p_memsz, p_flags, and p_align: all begins at multiples of 4
abbrev pub program_header : Segment → List ℕ
program_header s =
    words (s.kind ∷ s.offset ∷ s.address ∷ 0 ∷ s.file_size ∷ s.memory_size ∷ s.flags ∷ 4 ∷ [])
