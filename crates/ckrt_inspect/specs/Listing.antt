-- The listing of a program: its tables in plain text, row by row (this project's own format). Lines end with a line feed; addresses and pcs
-- have eight lower-case hexadecimal digits, other numbers are decimal.
use Rattle.std.specs.Prelude.{ℕ, suc, Bool, List, [], ◌∷◌, ◌++◌, length, take, if◌then◌else◌, codes, decimal, Option, Some, None}
use Rattle.std.specs.List.{flat_map}
use Rattle.ckrt_thread.specs.declared.records.Cancellation.{Cancellation}
use Rattle.ckrt_thread.specs.declared.records.Live.{Live}
use Rattle.ckrt_thread.specs.declared.records.Thread.{Thread}
use Rattle.ckrt_thread.specs.declared.records.Thread.TheVariants as thread
use Rattle.ckrt_thread.specs.declared.records.Wait.{Wait}
use Rattle.ckrt_thread.specs.Contents.{ThreadRow, thread_rows}
use Rattle.ckrt_thread.specs.State as threads
use Rattle.ckrt_objects.specs.declared.address_map.Entry.{Entry}
use Rattle.ckrt_mutex.specs.declared.records.Mutex.{Mutex}
use Rattle.ckrt_barrier.specs.declared.barrier.Barrier.{Barrier}
use Rattle.ckrt_rwlock.specs.declared.records.RwLock.{RwLock}
use Rattle.ckrt_tables.specs.declared.reading_objects.Reader.{Reader}
use Rattle.ckrt_thread.specs.Keys.{KeyTable}
use Rattle.ckrt_tables.specs.declared.reading_keys.KeyEntry.{KeyEntry}
use Rattle.ckrt_tables.specs.Records.{id_or_0, readers_of, words_from, value_words, specific_of}
use Rattle.ckrt_calls.specs.declared.table.Status.{Status}
use Rattle.ckrt_calls.specs.declared.table.Tables.{Tables}
use Rattle.ckrt_machine.specs.Steps.{State}
use Rattle.hex.specs.Hex.{encode_lower}
use Rattle.ckrt_stored.specs.declared.note.ProgramNote.{ProgramNote}
use Rattle.ckrt_stored.specs.declared.schedule.ScheduleNote.{ScheduleNote}
use Rattle.ckrt_inspect.specs.Texts.{flag_text, hex_text, kind_text, reason_text, status_text}
use Rattle.ckrt_inspect.specs.Code.{code_lines}

-- `events K`, `clock N`, `status STATUS`
abbrev pub events_line : ℕ → List ℕ
events_line count = codes "events " ++ decimal count ++ codes "\n"

abbrev pub clock_line : ℕ → List ℕ
clock_line clock = codes "clock " ++ decimal clock ++ codes "\n"

abbrev pub status_line : Status → List ℕ
status_line s = codes "status " ++ status_text s ++ codes "\n"

-- HARTS: `hart H T`, or `hart H idle`

abbrev pub on_hart_text : Option ℕ → List ℕ
on_hart_text None = codes "idle"
on_hart_text (Some t) = decimal t

abbrev pub hart_line : ℕ → Option ℕ → List ℕ
hart_line h on = codes "hart " ++ decimal h ++ codes " " ++ on_hart_text on ++ codes "\n"

-- the lines of harts of which the first has this number
abbrev pub hart_lines_from : ℕ → List (Option ℕ) → List ℕ
hart_lines_from h [] = []
hart_lines_from h (on ∷ more) = hart_line h on ++ hart_lines_from (suc h) more

-- each hart that there is
abbrev pub hart_lines : threads.State → List ℕ
hart_lines s = hart_lines_from 0 (take s.hart_count s.harts)

-- THREADS: `thread T joinable ready pc PC enabled deferred none handlers N`, or `thread T ended VALUE`

-- ` unwinding VALUE`, where it unwinds
abbrev pub unwinding_text : Option ℕ → List ℕ
unwinding_text None = []
unwinding_text (Some value) = codes " unwinding " ++ decimal value

-- ` joinable ready pc PC`: it is blocked where it waits
abbrev pub standing_text : (blocked : Bool) → Live → List ℕ
standing_text blocked l = flag_text (codes "detached") (codes "joinable") l.detached ++ flag_text (codes "blocked") (codes "ready") blocked ++ codes " pc " ++ hex_text l.regs.pc

-- ` enabled deferred none`
abbrev pub cancellation_text : Cancellation → List ℕ
cancellation_text c =
    flag_text (codes "enabled") (codes "disabled") c.is_enabled
    ++ flag_text (codes "asynchronous") (codes "deferred") c.is_asynchronous
    ++ flag_text (codes "pending") (codes "none") c.is_requested

-- ` handlers N`, and ` unwinding VALUE` where it unwinds
abbrev pub ending_text : Live → List ℕ
ending_text l = codes " handlers " ++ decimal (length l.handlers.items) ++ unwinding_text l.cancellation.unwinding

-- a thread that hasn't ended: what stands after its number
abbrev pub live_text : (blocked : Bool) → Live → List ℕ
live_text blocked l = standing_text blocked l ++ cancellation_text l.cancellation ++ ending_text l

-- what stands after a thread's number
abbrev pub thread_text : (blocked : Bool) → Thread → List ℕ
thread_text blocked (thread.Ended value) = codes " ended " ++ decimal value
thread_text blocked (thread.Live l) = live_text blocked l

-- the code that it is about to run, where that is shown: none once it has ended
abbrev pub thread_code : (with_code : Bool) (memory : List ℕ) → Thread → List ℕ
thread_code with_code memory (thread.Ended value) = []
thread_code with_code memory (thread.Live l) = if with_code then code_lines memory l.regs.pc else []

abbrev pub thread_lines : (with_code : Bool) (memory : List ℕ) → threads.State → ThreadRow → List ℕ
thread_lines with_code memory s r =
    codes "thread " ++ decimal r.id ++ thread_text (threads.is_waiting s r.id) r.thread ++ codes "\n" ++ thread_code with_code memory r.thread

-- WAITS: `wait T KIND ..`, and ` until N` where there is a deadline

abbrev pub until_text : Option ℕ → List ℕ
until_text None = []
until_text (Some moment) = codes " until " ++ decimal moment

abbrev pub wait_line : Wait → List ℕ
wait_line w = codes "wait " ++ decimal w.thread ++ codes " " ++ reason_text w.reason ++ until_text w.deadline ++ codes "\n"

-- MUTEXES: `mutex ADDR KIND OWNER COUNT`, 0 where nobody owns it

abbrev pub mutex_line : Entry Mutex → List ℕ
mutex_line e = codes "mutex " ++ hex_text e.address ++ codes " " ++ kind_text e.value.kind ++ codes " " ++ decimal (id_or_0 e.value.owner) ++ codes " " ++ decimal e.value.count ++ codes "\n"

-- BARRIERS: `barrier ADDR COUNT`

abbrev pub barrier_line : Entry Barrier → List ℕ
barrier_line e = codes "barrier " ++ hex_text e.address ++ codes " " ++ decimal e.value.count ++ codes "\n"

-- READ-WRITE LOCKS: `rwlock ADDR writer T`, or `rwlock ADDR readers T:C T:C ..`

-- ` T:C`: a reader and how often it has locked it
abbrev pub reader_text : Reader → List ℕ
reader_text r = codes " " ++ decimal r.id ++ codes ":" ++ decimal r.count

-- who holds it
abbrev pub holders_text : Option ℕ → List Reader → List ℕ
holders_text (Some t) readers = codes " writer " ++ decimal t
holders_text None readers = codes " readers" ++ flat_map reader_text readers

abbrev pub rwlock_line : Entry RwLock → List ℕ
rwlock_line e = codes "rwlock " ++ hex_text e.address ++ holders_text e.value.writer (readers_of e.value) ++ codes "\n"

-- KEYS: `keys off` where they are off, and `key K ADDR`; then `value T K V` for each value that isn't 0

abbrev pub mark_line : Bool → List ℕ
mark_line is_on = if is_on then [] else codes "keys off\n"

abbrev pub key_line : KeyEntry → List ℕ
key_line w = codes "key " ++ decimal w.key ++ codes " " ++ hex_text w.word ++ codes "\n"

abbrev pub keys_lines : KeyTable → List ℕ
keys_lines keys = mark_line keys.is_on ++ flat_map key_line (words_from 0 keys.destructors)

abbrev pub value_line : ℕ → KeyEntry → List ℕ
value_line t w = codes "value " ++ decimal t ++ codes " " ++ decimal w.key ++ codes " " ++ decimal w.word ++ codes "\n"

abbrev pub value_lines : ThreadRow → List ℕ
value_lines r = flat_map (value_line r.id) (value_words (specific_of r.thread))

abbrev pub all_key_lines : threads.State → List ℕ
all_key_lines s = keys_lines s.keys ++ flat_map value_lines (thread_rows s)

-- THE LISTING

-- the lines of the program's objects
abbrev pub object_lines : Tables → List ℕ
object_lines t =
    flat_map mutex_line t.mutexes ++ flat_map barrier_line t.barriers
    ++ flat_map rwlock_line t.rwlocks

-- the lines of harts, threads and waits
abbrev pub all_thread_lines : (with_code : Bool) (memory : List ℕ) → threads.State → List ℕ
all_thread_lines with_code memory s =
    hart_lines s ++ flat_map (thread_lines with_code memory s) (thread_rows s)
    ++ flat_map wait_line s.waits

-- the first three lines
abbrev pub head_lines : ℕ → Tables → List ℕ
head_lines count t = events_line count ++ clock_line t.clock ++ status_line t.status

-- a program after that many events, with the code that each thread is about to run or without it
abbrev pub listing_by : (with_code : Bool) (count : ℕ) → State → List ℕ
listing_by with_code count s =
    head_lines count s.tables
    ++ all_thread_lines with_code s.bytes s.tables.threads
    ++ object_lines s.tables
    ++ all_key_lines s.tables.threads

-- `program DIGEST BYTES`, where the disk notes its program
abbrev pub program_line : Option ProgramNote → List ℕ
program_line None = []
program_line (Some note) =
    codes "program " ++ encode_lower note.digest ++ codes " " ++ decimal note.bytes ++ codes "\n"

-- the seed of a schedule, behind its turn
abbrev pub seed_text : Option ℕ → List ℕ
seed_text None = []
seed_text (Some seed) = codes " " ++ decimal seed

-- `schedule TURN` or `schedule TURN SEED`, where the disk notes its schedule
abbrev pub schedule_line : Option ScheduleNote → List ℕ
schedule_line None = []
schedule_line (Some s) = codes "schedule " ++ decimal s.turn ++ seed_text s.seed ++ codes "\n"

-- the same program, as a disk with these notes has it
abbrev pub disk_listing : (with_code : Bool) (count : ℕ) → State → Option ProgramNote
    → Option ScheduleNote → List ℕ
disk_listing with_code count s note schedule =
    listing_by with_code count s ++ program_line note ++ schedule_line schedule
