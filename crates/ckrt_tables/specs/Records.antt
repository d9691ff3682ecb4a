-- The records of saved tables, byte by byte (this project's own format, of which there are two versions). Numbers have their
-- lowest byte first, and what a record doesn't use is 0.
use Rattle.std.specs.Prelude.{ℕ, suc, ◌+◌, ◌%◌, ◌==◌, Bool, not, if◌then◌else◌, Option, Some, None, is_some, unwrap_or, List, [], ◌∷◌, ◌++◌, length, map, replicate}
use Rattle.std.specs.List.{flat_map, range_with_len}
use Rattle.byteorder.specs.Endian.{little_bytes}
use Rattle.ckrt_registers.specs.Registers.{Registers, get}
use Rattle.ckrt_rv32i.specs.declared.execution.Cause.{Cause}
use Rattle.ckrt_rv32i.specs.declared.execution.Cause.TheVariants as cause
use Rattle.ckrt_thread.specs.declared.records.Handler.{Handler}
use Rattle.ckrt_thread.specs.declared.records.Thread.{Thread}
use Rattle.ckrt_thread.specs.declared.records.Thread.TheVariants as thread
use Rattle.ckrt_thread.specs.declared.records.Wait.{Wait}
use Rattle.ckrt_thread.specs.declared.records.Reason.{Reason}
use Rattle.ckrt_thread.specs.declared.records.Reason.TheVariants as reason
use Rattle.ckrt_thread.specs.declared.records.RetakeResult.{RetakeResult}
use Rattle.ckrt_thread.specs.declared.records.RetakeResult.TheVariants as retake
use Rattle.ckrt_thread.specs.declared.keys.SpecificData.{SpecificData}
use Rattle.ckrt_thread.specs.Keys.{KeyTable, no_data}
use Rattle.ckrt_thread.specs.Contents.{ThreadRow}
use Rattle.ckrt_objects.specs.declared.address_map.Entry.{Entry}
use Rattle.ckrt_mutex.specs.declared.records.Kind.{Kind}
use Rattle.ckrt_mutex.specs.declared.records.Kind.TheVariants as kind
use Rattle.ckrt_mutex.specs.declared.records.Mutex.{Mutex}
use Rattle.ckrt_barrier.specs.declared.barrier.Barrier.{Barrier}
use Rattle.ckrt_rwlock.specs.declared.records.RwLock.{RwLock}
use Rattle.ckrt_tables.specs.declared.reading_objects.Reader.{Reader}
use Rattle.ckrt_tables.specs.declared.reading_keys.KeyEntry.{KeyEntry}

-- NUMBERS

-- 0 stands for none
abbrev pub id_or_0 : Option ℕ → ℕ
id_or_0 o = unwrap_or o 0

-- CAUSES OF FAULTS

abbrev pub cause_number : Cause → ℕ
cause_number cause.FetchRange = 1
cause_number cause.Illegal = 2
cause_number cause.JumpMisaligned = 3
cause_number cause.LoadMisaligned = 4
cause_number cause.LoadRange = 5
cause_number cause.StoreMisaligned = 6
cause_number cause.StoreRange = 7
cause_number cause.Breakpoint = 8
cause_number cause.Gate = 9

-- the cause that a number stands for
abbrev pub cause_from : ℕ → Cause
cause_from n =
    if n == 1 then cause.FetchRange
    else if n == 2 then cause.Illegal
    else if n == 3 then cause.JumpMisaligned
    else if n == 4 then cause.LoadMisaligned
    else if n == 5 then cause.LoadRange
    else if n == 6 then cause.StoreMisaligned
    else if n == 7 then cause.StoreRange
    else if n == 8 then cause.Breakpoint
    else cause.Gate

-- LISTS

abbrev pub one_byte : ℕ → List ℕ
one_byte n = n ∷ []

abbrev pub two_bytes : ℕ → List ℕ
two_bytes n = little_bytes 2 n

-- how many records, in one byte or two, and the records
abbrev pub counted : {X : Type 0} → (ℕ → List ℕ) → (X → List ℕ) → List X → List ℕ
counted number each xs = number (length xs) ++ flat_map each xs

-- A HART, 1 byte: the thread on it, 0 where it is idle

abbrev pub hart_bytes : Option ℕ → List ℕ
hart_bytes h = id_or_0 h ∷ []

-- WORDS BY KEY, 8 bytes: the key, and the word

abbrev pub word_at : ℕ → Option ℕ → List KeyEntry
word_at k None = []
word_at k (Some w) = (record { key = k; word = w }) ∷ []

-- the words among some of which the first is that of a key
abbrev pub words_from : ℕ → List (Option ℕ) → List KeyEntry
words_from k [] = []
words_from k (o ∷ os) = word_at k o ++ words_from (suc k) os

abbrev pub key_entry_bytes : KeyEntry → List ℕ
key_entry_bytes w = little_bytes 4 w.key ++ little_bytes 4 w.word

-- WHAT A THREAD HAS UNDER KEYS, from version 2 on, 4 bytes and 8 a value that isn't 0: the round of destructors, the key with
-- which it goes on, how many such values there are, 0, and the values by rising key

abbrev pub if_not_0 : ℕ → Option ℕ
if_not_0 v = if v == 0 then None else Some v

abbrev pub word_or_0 : Option ℕ → ℕ
word_or_0 o = unwrap_or o 0

abbrev pub value_words : SpecificData → List KeyEntry
value_words d = words_from 0 (map if_not_0 d.values)

abbrev pub data_bytes : ℕ → SpecificData → List ℕ
data_bytes version d =
    if version == 1 then []
    else d.round ∷ d.next_key ∷ length (value_words d) ∷ 0 ∷ flat_map key_entry_bytes (value_words d)

-- A THREAD, 136 bytes and 8 a handler: its id, its flags, how many handlers it has, 0, the value that it unwinds or ended with,
-- the pc, x1 to x31, and the handlers, oldest first; from version 2 on, what it has under keys. One that has ended has id,
-- flags and value alone.

abbrev pub flag : ℕ → Bool → ℕ
flag n b = if b then n else 0

abbrev pub flags_of : Thread → ℕ
flags_of (thread.Ended v) = 64
flags_of (thread.Live l) =
    flag 1 l.initial
    + flag 2 l.detached
    + flag 4 (not l.cancellation.is_enabled)
    + flag 8 l.cancellation.is_asynchronous
    + flag 16 l.cancellation.is_requested
    + flag 32 (is_some l.cancellation.unwinding)

abbrev pub value_of : Thread → ℕ
value_of (thread.Ended v) = v
value_of (thread.Live l) = unwrap_or l.cancellation.unwinding 0

abbrev pub registers_of : Thread → Registers
registers_of (thread.Ended v) = record { pc = 0; x = replicate 32 0 }
registers_of (thread.Live l) = l.regs

abbrev pub handlers_of : Thread → List Handler
handlers_of (thread.Ended v) = []
handlers_of (thread.Live l) = l.handlers.items

abbrev pub specific_of : Thread → SpecificData
specific_of (thread.Ended v) = no_data
specific_of (thread.Live l) = l.specific

-- x0 is always 0 and isn't there
abbrev pub register_bytes : Registers → ℕ → List ℕ
register_bytes r k = little_bytes 4 (get r k)

abbrev pub registers_bytes : Registers → List ℕ
registers_bytes r = little_bytes 4 r.pc ++ flat_map (register_bytes r) (range_with_len 1 31)

abbrev pub handler_bytes : Handler → List ℕ
handler_bytes h = little_bytes 4 h.routine ++ little_bytes 4 h.argument

abbrev pub thread_bytes : ℕ → ThreadRow → List ℕ
thread_bytes version r =
    r.id ∷ flags_of r.thread ∷ length (handlers_of r.thread) ∷ 0 ∷ (little_bytes 4 (value_of r.thread)
    ++ (registers_bytes (registers_of r.thread)
    ++ (flat_map handler_bytes (handlers_of r.thread) ++ data_bytes version (specific_of r.thread))))

-- A WAIT, 20 bytes: who waits, the kind of its reason, the result of a retake, whether there is a deadline, what the reason
-- names, and the deadline

abbrev pub kind_of : Reason → ℕ
kind_of (reason.Join id) = 1
kind_of (reason.Lock a) = 2
kind_of (reason.Retake a r) = 3
kind_of (reason.Condition c a) = 4
kind_of (reason.Barrier a) = 5
kind_of (reason.Read a) = 6
kind_of (reason.Write a) = 7
kind_of reason.Input = 8
kind_of reason.Sleep = 9

-- the error number that a retake ends with, or 255 where the thread unwinds then
abbrev pub retake_number : RetakeResult → ℕ
retake_number retake.Done = 0
retake_number retake.TimedOut = 110
retake_number retake.Unwind = 255

abbrev pub result_of : Reason → ℕ
result_of (reason.Retake a r) = retake_number r
result_of _ = 0

abbrev pub first_name : Reason → ℕ
first_name (reason.Join id) = id
first_name (reason.Lock a) = a
first_name (reason.Retake a r) = a
first_name (reason.Condition c a) = c
first_name (reason.Barrier a) = a
first_name (reason.Read a) = a
first_name (reason.Write a) = a
first_name reason.Input = 0
first_name reason.Sleep = 0

-- the mutex of a condition wait
abbrev pub second_name : Reason → ℕ
second_name (reason.Condition c a) = a
second_name _ = 0

-- what the number of a retake's end stands for
abbrev pub retake_from : ℕ → RetakeResult
retake_from n = if n == 0 then retake.Done else if n == 110 then retake.TimedOut else retake.Unwind

-- the reason that its kind, its result and its names stand for
abbrev pub reason_from : ℕ → ℕ → ℕ → ℕ → Reason
reason_from k n a b =
    if k == 1 then reason.Join (a % 256)
    else if k == 2 then reason.Lock a
    else if k == 3 then reason.Retake a (retake_from n)
    else if k == 4 then reason.Condition a b
    else if k == 5 then reason.Barrier a
    else if k == 6 then reason.Read a
    else if k == 7 then reason.Write a
    else if k == 8 then reason.Input
    else reason.Sleep

abbrev pub wait_bytes : Wait → List ℕ
wait_bytes w =
    w.thread ∷ kind_of w.reason ∷ result_of w.reason ∷ flag 1 (is_some w.deadline) ∷ (little_bytes 4 (first_name w.reason)
    ++ (little_bytes 4 (second_name w.reason) ++ little_bytes 8 (unwrap_or w.deadline 0)))

-- A MUTEX, 8 bytes: address, kind, owner or 0, count

abbrev pub mutex_kind_number : Kind → ℕ
mutex_kind_number kind.Normal = 0
mutex_kind_number kind.Recursive = 1
mutex_kind_number kind.ErrorCheck = 2

abbrev pub mutex_bytes : Entry Mutex → List ℕ
mutex_bytes e =
    little_bytes 4 e.address
    ++ (mutex_kind_number e.value.kind ∷ id_or_0 e.value.owner ∷ little_bytes 2 e.value.count)

-- A BARRIER, 8 bytes: address, count

abbrev pub barrier_bytes : Entry Barrier → List ℕ
barrier_bytes e = little_bytes 4 e.address ++ little_bytes 4 e.value.count

-- A READ-WRITE LOCK, 6 bytes and 3 a reader: address, writer or 0, how many readers it has, and each reader's id and count, by
-- rising id

abbrev pub reader_at : ℕ → ℕ → List Reader
reader_at id n = if n == 0 then [] else (record { id = id; count = n }) ∷ []

-- the readers among counts of which the first is that of an id
abbrev pub readers_from : ℕ → List ℕ → List Reader
readers_from id [] = []
readers_from id (n ∷ ns) = reader_at id n ++ readers_from (suc id) ns

abbrev pub readers_of : RwLock → List Reader
readers_of l = readers_from 0 l.readers

abbrev pub reader_bytes : Reader → List ℕ
reader_bytes r = r.id ∷ little_bytes 2 r.count

-- the counts of all ids, as their readers
abbrev pub counts_bytes : List ℕ → List ℕ
counts_bytes ns = counted one_byte reader_bytes (readers_from 0 ns)

abbrev pub rwlock_bytes : Entry RwLock → List ℕ
rwlock_bytes e = little_bytes 4 e.address ++ (id_or_0 e.value.writer ∷ counts_bytes e.value.readers)

-- THE KEYS OF THE PROGRAM, from version 2 on: whether it may have any (1), how many there are, and each with its destructor (0
-- for none), by rising key

abbrev pub keys_bytes : ℕ → KeyTable → List ℕ
keys_bytes version keys =
    if version == 1 then []
    else flag 1 keys.is_on ∷ counted one_byte key_entry_bytes (words_from 0 keys.destructors)
