-- Mutexes, barriers, read-write locks and queues, as a reader finds them.
use Rattle.std.specs.Prelude.{◌≡◌, ◌≤◌, ℕ, nat_le, Bool, true, ◌&&◌, List, [], ◌∷◌, ◌++◌, length, slice_set}
use Rattle.std.specs.List.{list_all}
use Rattle.ckrt_objects.specs.declared.address_map.Entry.{Entry}
use Rattle.ckrt_objects.specs.Appended.{IsTableUpTo}
use Rattle.ckrt_mutex.specs.declared.records.Mutex.{Mutex}
use Rattle.ckrt_mutex.specs.Mutex as mutex
use Rattle.ckrt_barrier.specs.declared.barrier.Barrier.{Barrier}
use Rattle.ckrt_barrier.specs.WellFormed as barrier
use Rattle.ckrt_rwlock.specs.declared.records.RwLock.{RwLock}
use Rattle.ckrt_rwlock.specs.RwLock as rwlock
use Rattle.ckrt_tables.specs.declared.reading_objects.Reader.{Reader}
use Rattle.ckrt_tables.specs.Savable.{is_byte, is_half, fits_mutex, fits_barrier, fits_rwlock}

-- A READER OF A WHOLE LIST. Where the bytes begin with the encoding of such a list, that is found, and the bytes after it are left.
abbrev pub FindsAll : {X : Type 0} → (List X → Type 0) → (List X → List ℕ) → List ℕ → List X
    → List ℕ → Type 0
FindsAll {X = X} Are encoding bytes found left =
    (xs : List X) (rest : List ℕ) → Are xs → bytes ≡ encoding xs ++ rest → (found ≡ xs) × (left ≡ rest)

-- TABLES

-- a table of a kind, and its numbers fit their fields
pub record AreEntries {T : Type 0} (IsTable : List (Entry T) → Type 0) (fits : Entry T → Bool)
    (es : List (Entry T)) : Type 0 where
  pub table : IsTable es
  pub fit : list_all fits es ≡ true

abbrev pub AreMutexes : List (Entry Mutex) → Type 0
AreMutexes ms = AreEntries (IsTableUpTo 256 mutex.IsTable) fits_mutex ms

abbrev pub AreBarriers : List (Entry Barrier) → Type 0
AreBarriers bs = AreEntries barrier.IsTable fits_barrier bs

abbrev pub AreRwLocks : List (Entry RwLock) → Type 0
AreRwLocks ls = AreEntries (IsTableUpTo 64 rwlock.IsTable) fits_rwlock ls

-- the goal is a table, and has these entries after those that it began with
pub record LeadsToTable {T : Type 0} (IsTable : List (Entry T) → Type 0)
    (begun es goal : List (Entry T)) : Type 0 where
  pub table : IsTable goal
  pub entries : goal ≡ begun ++ es

-- READERS OF A LOCK, which go into the counts of read locks by the id

abbrev pub fits_reader : Reader → Bool
fits_reader r = is_byte r.id && (nat_le r.id 64 && is_half r.count)

-- the counts with those of these readers
abbrev pub with_readers : List Reader → List ℕ → List ℕ
with_readers [] ns = ns
with_readers (r ∷ rs) ns = with_readers rs (slice_set ns r.id r.count)

-- a count for each id
abbrev pub AreCounts : List ℕ → Type 0
AreCounts ns = (length ns ≡ 65) × (list_all is_half ns ≡ true)

-- QUEUES

-- that many bytes at most
abbrev pub AreUpTo : ℕ → List ℕ → Type 0
AreUpTo limit bytes = length bytes ≤ limit
