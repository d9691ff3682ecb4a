-- The one encoding, in a version, of the tables of a program and the output that it holds: part by part, nothing between.
-- Version 2 has the keys of the program, and what threads have under them, and version 1 hasn't.
use Rattle.std.specs.Prelude.{ℕ, ◌≤◌, ◌==◌, if◌then◌else◌, List, [], ◌∷◌, ◌++◌, length}
use Rattle.std.specs.List.{concat, flat_map}
use Rattle.byteorder.specs.Endian.{little_bytes}
use Rattle.ckrt_thread.specs.Contents.{thread_rows}
use Rattle.ckrt_calls.specs.declared.table.Status.{Status}
use Rattle.ckrt_calls.specs.declared.table.Status.TheVariants as status
use Rattle.ckrt_calls.specs.declared.table.Tables.{Tables}
use Rattle.ckrt_calls.specs.Output.{HELD_LIMIT}
use Rattle.ckrt_tables.specs.Records.{flag, cause_number, cause_from, counted, one_byte, two_bytes, hart_bytes, thread_bytes, wait_bytes, mutex_bytes, barrier_bytes, rwlock_bytes, keys_bytes}

-- THE PROGRAM'S STATUS, 7 bytes: whether it runs (0), exited (1) or faulted (2); the thread and the cause of the fault; the
-- exit status, or the pc of the fault

abbrev pub framed : ℕ → ℕ → ℕ → ℕ → List ℕ
framed kind thread cause word = kind ∷ thread ∷ cause ∷ little_bytes 4 word

abbrev pub status_bytes : Status → List ℕ
status_bytes status.Running = framed 0 0 0 0
status_bytes (status.Exited code) = framed 1 0 0 code
status_bytes (status.Faulted t pc c) = framed 2 t (cause_number c) pc

-- the status that its kind, its thread, its cause and its word stand for
abbrev pub status_from : ℕ → ℕ → ℕ → ℕ → Status
status_from kind thread cause word =
    if kind == 0 then status.Running
    else if kind == 1 then status.Exited word
    else status.Faulted thread word (cause_from cause)

-- PARTS

-- how many bytes, and the bytes, first one first
abbrev pub queue_bytes : List ℕ → List ℕ
queue_bytes bytes = little_bytes 2 (length bytes) ++ bytes

abbrev pub parts_of : ℕ → Tables → List ℕ → List (List ℕ)
parts_of version s held =
    little_bytes 8 s.clock
    ∷ (flag 1 s.closed ∷ [])
    ∷ status_bytes s.status
    ∷ flat_map hart_bytes s.threads.harts
    ∷ counted one_byte (thread_bytes version) (thread_rows s.threads)
    ∷ counted one_byte wait_bytes s.threads.waits
    ∷ counted two_bytes mutex_bytes s.mutexes
    ∷ counted one_byte barrier_bytes s.barriers
    ∷ counted one_byte rwlock_bytes s.rwlocks
    ∷ keys_bytes version s.threads.keys
    ∷ queue_bytes s.input
    ∷ queue_bytes held
    ∷ []

abbrev pub encoding_of : ℕ → Tables → List ℕ → List ℕ
encoding_of version s held = concat (parts_of version s held)

-- the version in which tables are saved
abbrev pub AREA_VERSION : ℕ
AREA_VERSION = 2

-- how many bytes there are for saved tables
abbrev pub TABLES_ROOM : ℕ
TABLES_ROOM = 98304

-- how many bytes the longest saved tables have
abbrev pub LONGEST_TABLES : ℕ
LONGEST_TABLES = 70820

abbrev pub IsHeld : List ℕ → Type 0
IsHeld held = length held ≤ HELD_LIMIT
