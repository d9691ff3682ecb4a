-- Parts of a core, written down by hand from the standards that they come from: what the definitions must give.
use Rattle.std.specs.Prelude.{◌≡◌, ◌++◌, ℕ, false, List, [], ◌∷◌, Some, None, replicate, slice_set, length, take, drop}
use Rattle.std.specs.List.{range_with_len}
use Rattle.ckrt_registers.specs.Registers.{Registers}
use Rattle.ckrt_rv32i.specs.declared.execution.Cause.TheVariants as cause
use Rattle.ckrt_thread.specs.Cancellation.{at_the_start}
use Rattle.ckrt_thread.specs.Keys.{no_keys, no_data}
use Rattle.ckrt_thread.specs.State as threads
use Rattle.ckrt_thread.specs.declared.records.Thread.{Thread}
use Rattle.ckrt_thread.specs.declared.records.Thread.TheVariants as thread
use Rattle.ckrt_calls.specs.declared.table.Status.{Status}
use Rattle.ckrt_calls.specs.declared.table.Status.TheVariants as status
use Rattle.ckrt_calls.specs.declared.table.Tables.{Tables}
use Rattle.ckrt_gdb_forms.specs.Elf.{elf_header, program_header}
use Rattle.ckrt_gdb_forms.specs.Notes.{all_notes, note_head, prstatus, thread_note}
use Rattle.ckrt_gdb_forms.specs.Core.{memory_segment, note_segment}

-- a thread at a pc, with 101 to 131 in x1 to x31
abbrev pub counting : ℕ → Registers
counting pc = record { pc = pc; x = 0 ∷ range_with_len 101 31 }

abbrev pub live : Registers → Thread
live r =
    thread.Live (record {
      regs = r;
      initial = false;
      detached = false;
      cancellation = at_the_start;
      handlers = record { items = [] };
      specific = no_data;
    })

-- threads 1 and 2, and thread 3, which has ended
abbrev pub three : (first second : Registers) → threads.State
three first second =
    record {
      threads =
          slice_set (slice_set (slice_set (replicate 65 None) 1 (Some (live first))) 2
          (Some (live second))) 3 (Some (thread.Ended 7));
      waits = [];
      harts = replicate 8 None;
      hart_count = 1;
      keys = no_keys;
    }

abbrev pub with_status : Status → threads.State → Tables
with_status st s =
    record { threads = s; mutexes = []; barriers = []; rwlocks = []; clock = 0; input = []; closed = false; status = st }

-- that many bytes from an offset on
abbrev pub part : (offset size : ℕ) → List ℕ → List ℕ
part offset size bytes = take size (drop offset bytes)

pub record WorkedCores : Type 0 where
  -- the ELF header: readelf calls it a core of RISC-V, of 32 bits, with two program headers at 52
  pub header : elf_header ≡ 0x7f ∷ 0x45 ∷ 0x4c ∷ 0x46 ∷ 1 ∷ 1 ∷ 1 ∷ 0 ∷ 0 ∷ 0 ∷ 0 ∷ 0 ∷ 0 ∷ 0 ∷ 0 ∷ 0 ∷ 4 ∷ 0 ∷ 0xf3 ∷ 0 ∷ 1 ∷ 0 ∷ 0 ∷ 0 ∷ 0 ∷ 0 ∷ 0 ∷ 0 ∷ 0x34 ∷ 0 ∷ 0 ∷ 0 ∷ 0 ∷ 0 ∷ 0 ∷ 0 ∷ 0 ∷ 0 ∷ 0 ∷ 0 ∷ 0x34 ∷ 0 ∷ 0x20 ∷ 0 ∷ 2 ∷ 0 ∷ 0 ∷ 0 ∷ 0 ∷ 0 ∷ 0 ∷ 0 ∷ []
  -- two notes, and 15 pages of memory after them
  pub notes : program_header (note_segment 448) ≡ 4 ∷ 0 ∷ 0 ∷ 0 ∷ 0x74 ∷ 0 ∷ 0 ∷ 0 ∷ 0 ∷ 0 ∷ 0 ∷ 0 ∷ 0 ∷ 0 ∷ 0 ∷ 0 ∷ 0xc0 ∷ 1 ∷ 0 ∷ 0 ∷ 0 ∷ 0 ∷ 0 ∷ 0 ∷ 0 ∷ 0 ∷ 0 ∷ 0 ∷ 4 ∷ 0 ∷ 0 ∷ 0 ∷ []
  pub memory : program_header (memory_segment 448 61440) ≡ 1 ∷ 0 ∷ 0 ∷ 0 ∷ 0x34 ∷ 2 ∷ 0 ∷ 0 ∷ 0 ∷ 0x10 ∷ 0 ∷ 0 ∷ 0 ∷ 0 ∷ 0 ∷ 0 ∷ 0 ∷ 0xf0 ∷ 0 ∷ 0 ∷ 0 ∷ 0xf0 ∷ 0 ∷ 0 ∷ 7 ∷ 0 ∷ 0 ∷ 0 ∷ 4 ∷ 0 ∷ 0 ∷ 0 ∷ []
  pub note : note_head 1 204 ≡ 5 ∷ 0 ∷ 0 ∷ 0 ∷ 0xcc ∷ 0 ∷ 0 ∷ 0 ∷ 1 ∷ 0 ∷ 0 ∷ 0 ∷ 0x43 ∷ 0x4f ∷ 0x52 ∷ 0x45 ∷ 0 ∷ 0 ∷ 0 ∷ 0 ∷ []
  -- what a debugger looks up in a note: its size, the signal at 12, the id at 24, the pc at 72, and x1, x2 and x31 after it
  pub size : length (prstatus 11 64 (counting 0x1f0c)) ≡ 204
  pub signal : part 12 2 (prstatus 11 64 (counting 0x1f0c)) ≡ 11 ∷ 0 ∷ []
  pub id : part 24 4 (prstatus 11 64 (counting 0x1f0c)) ≡ 64 ∷ 0 ∷ 0 ∷ 0 ∷ []
  pub pc : part 72 4 (prstatus 11 64 (counting 0x1f0c)) ≡ 0x0c ∷ 0x1f ∷ 0 ∷ 0 ∷ []
  pub x1 : part 76 4 (prstatus 11 64 (counting 0x1f0c)) ≡ 101 ∷ 0 ∷ 0 ∷ 0 ∷ []
  pub x2 : part 80 4 (prstatus 11 64 (counting 0x1f0c)) ≡ 102 ∷ 0 ∷ 0 ∷ 0 ∷ []
  pub x31 : part 196 4 (prstatus 11 64 (counting 0x1f0c)) ≡ 131 ∷ 0 ∷ 0 ∷ 0 ∷ []
  -- who faulted comes first; who has ended has no note
  pub faulted : all_notes (with_status (status.Faulted 2 0x1008 cause.LoadRange) (three (counting 0x1000) (counting 0x1008))) ≡ thread_note 11 2 (counting 0x1008) ++ thread_note 11 1 (counting 0x1000)
  pub exited : all_notes (with_status (status.Exited 7) (three (counting 0x1000) (counting 0x1008))) ≡ thread_note 0 1 (counting 0x1000) ++ thread_note 0 2 (counting 0x1008)
