-- The notes of an ELF core: one NT_PRSTATUS for each thread that hasn't ended (System V gABI, chapter 5 "Note Section"; what Linux puts into
-- a core, `struct elf_prstatus` of 32-bit RISC-V).
use Rattle.std.specs.Prelude.{ℕ, ◌==◌, Bool, false, if◌then◌else◌, List, [], ◌∷◌, ◌++◌, length, drop, replicate, codes, Option, Some, None}
use Rattle.std.specs.List.{flat_map}
use Rattle.ckrt_registers.specs.Registers.{Registers}
use Rattle.ckrt_rv32i.specs.declared.execution.Cause.{Cause}
use Rattle.ckrt_rv32i.specs.declared.execution.Cause.TheVariants as cause
use Rattle.ckrt_thread.specs.Contents.{ThreadRow, thread_rows}
use Rattle.ckrt_thread.specs.State as threads
use Rattle.ckrt_calls.specs.declared.table.Status.{Status}
use Rattle.ckrt_calls.specs.declared.table.Status.TheVariants as status
use Rattle.ckrt_calls.specs.declared.table.Tables.{Tables}
use Rattle.ckrt_gdb_forms.specs.Elf.{word, words}

-- A NOTE: the sizes of its name and of its contents, its type, the name with the byte that ends it, up to a multiple of 4, and its contents

abbrev pub NT_PRSTATUS : ℕ
NT_PRSTATUS = 1

-- of that many bytes of contents
abbrev pub note_head : (kind size : ℕ) → List ℕ
note_head kind size = words (5 ∷ size ∷ kind ∷ []) ++ (codes "CORE" ++ replicate 4 0)

abbrev pub note : (kind : ℕ) (contents : List ℕ) → List ℕ
note kind contents = note_head kind (length contents) ++ contents

-- A THREAD, in 204 bytes

-- the general registers: pc, and x1 to x31
abbrev pub general : Registers → List ℕ
general r = words (r.pc ∷ drop 1 r.x)

-- si_signo, and neither code nor number of an error; pr_cursig, in two bytes with two after it, and no signal pending or held; pr_pid, and
-- neither parent, group nor session; four times, of two words each; the general registers; and no register of floating point (pr_fpvalid)
abbrev pub prstatus : (signal id : ℕ) → Registers → List ℕ
prstatus signal id r =
    words (signal ∷ 0 ∷ 0 ∷ signal ∷ 0 ∷ 0 ∷ id ∷ replicate 11 0) ++ general r ++ word 0

abbrev pub thread_note : (signal id : ℕ) → Registers → List ℕ
thread_note signal id r = note NT_PRSTATUS (prstatus signal id r)

-- one note, or none where there are no registers: of a thread that has ended
abbrev pub notes_at : (signal id : ℕ) → Option Registers → List ℕ
notes_at signal id None = []
notes_at signal id (Some r) = thread_note signal id r

-- ALL THREADS: the one that faulted first, and then the others by rising id. Each has the signal that ended the program, as in a core of
-- Linux: a debugger takes it from the last note.

-- the signal of a fault, by Linux's numbers: SIGILL, SIGTRAP, SIGBUS, SIGSEGV
abbrev pub cause_signal : Cause → ℕ
cause_signal cause.Illegal = 4
cause_signal cause.Breakpoint = 5
cause_signal cause.JumpMisaligned = 7
cause_signal cause.LoadMisaligned = 7
cause_signal cause.StoreMisaligned = 7
cause_signal cause.FetchRange = 11
cause_signal cause.LoadRange = 11
cause_signal cause.StoreRange = 11
cause_signal cause.Gate = 11

-- 0 where the program didn't fault
abbrev pub signal_of : Status → ℕ
signal_of status.Running = 0
signal_of (status.Exited v) = 0
signal_of (status.Faulted t pc c) = cause_signal c

abbrev pub faulted_notes : Status → threads.State → List ℕ
faulted_notes status.Running s = []
faulted_notes (status.Exited v) s = []
faulted_notes (status.Faulted t pc c) s =
    notes_at (cause_signal c) t (threads.regs_of (threads.thread_of s t))

abbrev pub has_faulted : Status → ℕ → Bool
has_faulted status.Running id = false
has_faulted (status.Exited v) id = false
has_faulted (status.Faulted t pc c) id = t == id

abbrev pub other_notes_of : Status → ThreadRow → List ℕ
other_notes_of st r =
    if has_faulted st r.id then [] else notes_at (signal_of st) r.id (threads.regs_of (Some r.thread))

abbrev pub other_notes : Status → threads.State → List ℕ
other_notes st s = flat_map (other_notes_of st) (thread_rows s)

abbrev pub all_notes : Tables → List ℕ
all_notes t = faulted_notes t.status t.threads ++ other_notes t.status t.threads
