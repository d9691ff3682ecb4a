-- What is told of a state, where nobody moves: registers, memory and threads, as a stub of gdb's remote protocol tells them.
use Rattle.std.specs.Prelude.{ℕ, zero, suc, ◌+◌, ◌==◌, ◌&&◌, ◌||◌, not, nat_le, nat_lt, min, Bool, if◌then◌else◌, List, [], ◌∷◌, ◌++◌, length, replicate, codes, Option, Some, None, unwrap_or}
use Rattle.std.specs.List.{flat_map}
use Rattle.std.specs.Int.{w32, to_le_bytes}
use Rattle.ckrt_registers.specs.Registers.{Registers}
use Rattle.ckrt_thread.specs.declared.records.Thread.{Thread}
use Rattle.ckrt_thread.specs.declared.records.Thread.TheVariants as thread
use Rattle.ckrt_thread.specs.State as threads
use Rattle.ckrt_rv32i.specs.Memory.{byte_at, is_valid}
use Rattle.ckrt_rv32i.specs.declared.memory_bus.Size.TheVariants as size
use Rattle.ckrt_gdb_forms.specs.Numbers.{byte_text, hex_text}
use Rattle.ckrt_gdb_forms.specs.Replies.{threads_text}

-- what a packet has room for: a payload of at most 4,096 bytes, or none
abbrev pub fitting : List ℕ → List ℕ
fitting payload = if nat_le (length payload) 4096 then payload else []

-- a failure with a number of the stub's own
abbrev pub failed_text : ℕ → List ℕ
failed_text n = codes "E" ++ byte_text n

-- REGISTERS: x0 to x31 and the pc, each lowest byte first

abbrev pub word : ℕ → List ℕ
word n = to_le_bytes w32 n

abbrev pub words : List ℕ → List ℕ
words ns = flat_map word ns

abbrev pub registers_bytes : Registers → List ℕ
registers_bytes r = words r.x ++ words (r.pc ∷ [])

-- those of a thread that has none any more
abbrev pub no_registers : Registers
no_registers = record { pc = 0; x = replicate 32 0 }

abbrev pub registers_of : ℕ → threads.State → Registers
registers_of t s = unwrap_or (threads.regs_of (threads.thread_of s t)) no_registers

abbrev pub registers_text : ℕ → threads.State → List ℕ
registers_text t s = hex_text (registers_bytes (registers_of t s))

-- MEMORY: the bytes from an address on, up to the first one outside, in at most one packet

abbrev pub byte_there : (address : ℕ) (memory : List ℕ) → Option ℕ
byte_there a memory = if is_valid memory a size.Byte then Some (byte_at memory a) else None

abbrev pub begin_with : Option ℕ → List ℕ → List ℕ
begin_with None bytes = []
begin_with (Some b) bytes = b ∷ bytes

abbrev pub bytes_there : (count address : ℕ) (memory : List ℕ) → List ℕ
bytes_there zero a memory = []
bytes_there (suc n) a memory = begin_with (byte_there a memory) (bytes_there n (a + 1) memory)

abbrev pub memory_count : ℕ → ℕ
memory_count count = min count 2048

abbrev pub bytes_text : List ℕ → List ℕ
bytes_text [] = failed_text 0x14
bytes_text (b ∷ bytes) = hex_text (b ∷ bytes)

abbrev pub memory_text : (address count : ℕ) (memory : List ℕ) → List ℕ
memory_text address count memory = bytes_text (bytes_there (memory_count count) address memory)

-- THREADS: those that haven't ended, by rising id; thread 1 where none is left

abbrev pub ids_of : ℕ → Option Thread → List ℕ
ids_of id slot = if threads.is_live_thread slot then id ∷ [] else []

abbrev pub ids_from : ℕ → List (Option Thread) → List ℕ
ids_from id [] = []
ids_from id (slot ∷ slots) = ids_of id slot ++ ids_from (suc id) slots

abbrev pub shown_ids : threads.State → List ℕ
shown_ids s = if threads.is_any_live s then ids_from 0 s.threads else 1 ∷ []

abbrev pub is_shown : ℕ → threads.State → Bool
is_shown t s = threads.is_live s t || (not (threads.is_any_live s) && t == 1)

-- AND THOSE THAT GDB KNOWS from the first stop on, up to a number, so that its own numbers of them are theirs: also where they aren't there

abbrev pub is_known : (known t : ℕ) → Bool
is_known known t = nat_lt 0 t && nat_le t known

abbrev pub is_listed : (known t : ℕ) → threads.State → Bool
is_listed known t s = is_known known t || is_shown t s

abbrev pub listed_of : (known id : ℕ) → Option Thread → List ℕ
listed_of known id slot = if is_known known id || threads.is_live_thread slot then id ∷ [] else []

abbrev pub listed_from : (known id : ℕ) → List (Option Thread) → List ℕ
listed_from known id [] = []
listed_from known id (slot ∷ slots) = listed_of known id slot ++ listed_from known (suc id) slots

abbrev pub ids_text : (known : ℕ) → threads.State → List ℕ
ids_text known s = threads_text (listed_from known 0 s.threads)

-- of one that isn't there
abbrev pub absent_text : Option Thread → List ℕ
absent_text (Some (thread.Ended v)) = codes "has ended"
absent_text _ = codes "isn't there"

abbrev pub done_text : Bool → List ℕ
done_text is_done = if is_done then codes "OK" else failed_text 1
