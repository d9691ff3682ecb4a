-- What the readers of harts, threads, waits and keys do.
use Rattle.std.specs.Prelude.{◌≡◌, ℕ, ◌-◌, ◌==◌, Bool, true, false, ◌&&◌, if◌then◌else◌, Option, Some, None, List, [], ◌∷◌, ◌++◌, length, take, replicate, slice_set}
use Rattle.std.specs.List.{list_all, flat_map}
use Rattle.ckrt_registers.specs.Registers.{Registers}
use Rattle.ckrt_thread.specs.declared.records.Handler.{Handler}
use Rattle.ckrt_thread.specs.declared.records.Thread.{Thread}
use Rattle.ckrt_thread.specs.declared.records.Wait.{Wait}
use Rattle.ckrt_thread.specs.declared.keys.SpecificData.{SpecificData}
use Rattle.ckrt_thread.specs.Keys.{KeyTable, all_keys, are_proper_keys}
use Rattle.ckrt_thread.specs.State.{State, IsWellFormed}
use Rattle.ckrt_thread.specs.Contents.{ThreadRow, thread_rows, empty, with_keys}
use Rattle.ckrt_tables.specs.declared.reading_keys.KeyEntry.{KeyEntry}
use Rattle.ckrt_tables.specs.Records.{counted, one_byte, hart_bytes, flags_of, value_of, registers_of, handlers_of, specific_of, thread_bytes, wait_bytes, keys_bytes}
use Rattle.ckrt_tables.specs.Savable.{if_there, is_id, is_byte, is_word, fits_thread, fits_data, fits_slot, fits_wait, fit_keys, is_without_data, is_slot_without_data}

-- WORDS BY KEY

abbrev pub fits_key_entry : KeyEntry → Bool
fits_key_entry w = is_word w.key && is_word w.word

-- the words, with these at their keys
abbrev pub with_words : List KeyEntry → List (Option ℕ) → List (Option ℕ)
with_words [] os = os
with_words (w ∷ ws) os = with_words ws (slice_set os w.key (Some w.word))

-- a word, or none, for each of 32 keys
abbrev pub AreWords : List (Option ℕ) → Type 0
AreWords os = (length os ≡ 32) × (list_all (if_there is_word) os ≡ true)

-- what a thread has under keys, as it fits a version
abbrev pub fits_data_in : ℕ → SpecificData → Bool
fits_data_in version d = fits_data d && (if version == 1 then is_without_data d else true)

-- keys that a program may have, as they fit a version
pub record AreKeys (version : ℕ) (keys : KeyTable) : Type 0 where
  pub proper : are_proper_keys keys ≡ true
  pub fit : fit_keys keys ≡ true
  pub said : version ≡ 1 → keys.is_on ≡ false

-- Where the bytes begin with the encoding of keys, these are found, and the bytes after them are left.
abbrev pub FindsKeys : ℕ → List ℕ → KeyTable → List ℕ → Type 0
FindsKeys version bytes found left =
    (keys : KeyTable) (rest : List ℕ) → AreKeys version keys → bytes ≡ keys_bytes version keys ++ rest → (found ≡ keys) × (left ≡ rest)

-- THREADS

-- a thread has these flags, value, registers, handlers and data in its record
pub record AreThreadBytes (flags value : ℕ) (regs : Registers) (handlers : List Handler)
    (specific : SpecificData) (t : Thread) : Type 0 where
  pub flags_are : flags ≡ flags_of t
  pub value_is : value ≡ value_of t
  pub registers_are : regs ≡ registers_of t
  pub handlers_are : handlers ≡ handlers_of t
  pub specific_is : specific ≡ specific_of t

-- a thread whose numbers fit its record in a version
abbrev pub fits_row : ℕ → ThreadRow → Bool
fits_row version r = is_byte r.id && (fits_thread r.thread && (if version == 1 then is_without_data (specific_of r.thread) else true))

-- ON THE WAY TO A TABLE OF THREADS. First its threads are there, then its waits, and then who is on a hart. Until its keys
-- are known, each number is one.

-- the well-formed table has these threads after those of the one that is begun
pub record ThreadsLeadTo (begun : State) (rows : List ThreadRow) (goal : State) : Type 0 where
  pub well_formed : IsWellFormed goal
  pub rows_are : thread_rows goal ≡ thread_rows begun ++ rows
  pub no_waits : begun.waits ≡ []
  pub idle : begun.harts ≡ replicate 8 None
  pub hart_count : begun.hart_count ≡ goal.hart_count
  pub keys : begun.keys ≡ goal.keys

-- it has the same threads, and these waits after those of the one that is begun
pub record WaitsLeadTo (begun : State) (rows : List Wait) (goal : State) : Type 0 where
  pub well_formed : IsWellFormed goal
  pub threads : thread_rows goal ≡ thread_rows begun
  pub waits_are : goal.waits ≡ begun.waits ++ rows
  pub idle : begun.harts ≡ replicate 8 None
  pub hart_count : begun.hart_count ≡ goal.hart_count
  pub keys : begun.keys ≡ goal.keys

-- it has the same threads and the same waits, and who is on that many harts is there already
pub record HartsLeadTo (placed : ℕ) (begun goal : State) : Type 0 where
  pub well_formed : IsWellFormed goal
  pub threads : thread_rows goal ≡ thread_rows begun
  pub waits : goal.waits ≡ begun.waits
  pub harts_are : begun.harts ≡ take placed goal.harts ++ replicate (8 - placed) None
  pub hart_count : begun.hart_count ≡ goal.hart_count
  pub keys : begun.keys ≡ goal.keys

-- Where a table lacks nothing of another but who is on a hart, and these are on the harts of that, that one is reached.
abbrev pub PutsOnHarts : List (Option ℕ) → State → State → Type 0
PutsOnHarts harts begun reached =
    (goal : State) → HartsLeadTo 0 begun goal → harts ≡ goal.harts → reached ≡ goal

-- a well-formed table of threads whose numbers fit their records in a version
pub record AreThreads (version : ℕ) (s : State) : Type 0 where
  pub well_formed : IsWellFormed s
  pub harts_fit : list_all (if_there is_id) s.harts ≡ true
  pub slots_fit : list_all fits_slot s.threads ≡ true
  pub waits_fit : list_all fits_wait s.waits ≡ true
  pub said : version ≡ 1 → list_all is_slot_without_data s.threads ≡ true

-- the thread on each hart, the threads and the waits, as they are saved
abbrev pub threads_bytes : ℕ → State → List ℕ
threads_bytes version s =
    flat_map hart_bytes s.harts
    ++ (counted one_byte (thread_bytes version) (thread_rows s) ++ counted one_byte wait_bytes s.waits)

-- Where the bytes begin with the encoding of a table, and nothing but its harts is there yet, that table is built, but for its
-- keys, and the bytes after it are left.
abbrev pub BuildsThreads : ℕ → State → List ℕ → State → List ℕ → Type 0
BuildsThreads version begun bytes built left =
    (s : State) (rest : List ℕ) → AreThreads version s → begun ≡ empty all_keys s.hart_count → bytes ≡ threads_bytes version s ++ rest
    → (built ≡ with_keys all_keys s) × (left ≡ rest)
