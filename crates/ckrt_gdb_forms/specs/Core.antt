-- An ELF core of a machine's state: what a debugger opens, with all threads and the memory.
use Rattle.std.specs.Prelude.{ℕ, ◌+◌, List, ◌++◌, length}
use Rattle.ckrt_machine.specs.Steps.{State}
use Rattle.ckrt_gdb_forms.specs.declared.elf.Segment.{Segment}
use Rattle.ckrt_gdb_forms.specs.Elf.{PT_LOAD, PT_NOTE, elf_header, program_header}
use Rattle.ckrt_gdb_forms.specs.Notes.{all_notes}

-- where the notes begin: after the ELF header and two program headers
abbrev pub NOTES_START : ℕ
NOTES_START = 116

-- the segment of that many bytes of notes, which is nowhere in memory
abbrev pub note_segment : ℕ → Segment
note_segment size =
    record {
      kind = PT_NOTE;
      offset = NOTES_START;
      address = 0;
      file_size = size;
      memory_size = 0;
      flags = 0;
    }

-- the address of the memory's first byte
abbrev pub MEMORY_START : ℕ
MEMORY_START = 0x1000

-- the segment of the memory, after that many bytes of notes: a guest may read, write and execute all of it (PF_R, PF_W and PF_X)
abbrev pub memory_segment : (notes size : ℕ) → Segment
memory_segment notes size =
    record {
      kind = PT_LOAD;
      offset = NOTES_START + notes;
      address = MEMORY_START;
      file_size = size;
      memory_size = size;
      flags = 7;
    }

-- what stands before that many bytes of notes and that many of memory
abbrev pub headers : (notes memory : ℕ) → List ℕ
headers notes memory =
    elf_header
    ++ program_header (note_segment notes)
    ++ program_header (memory_segment notes memory)

abbrev pub core_with : (notes memory : List ℕ) → List ℕ
core_with notes memory = headers (length notes) (length memory) ++ notes ++ memory

-- the headers, a note for each thread that hasn't ended, and the memory
abbrev pub core_of : State → List ℕ
core_of s = core_with (all_notes s.tables) s.bytes
