-- A read-write lock, and the table of read-write locks (POSIX.1-2017, pthread_rwlock_init).
use Rattle.std.specs.Prelude.{ℕ, ◌-◌, ◌==◌, ◌≡◌, nat_lt, nat_le, Bool, true, ◌&&◌, ◌||◌, not, if◌then◌else◌, List, length, replicate, slice_index_or, slice_set, Option, Some, None, is_some, unwrap_or}
use Rattle.std.specs.List.{list_all, list_any}
use Rattle.ckrt_thread.specs.State.{holds}
use Rattle.ckrt_objects.specs.declared.address_map.Entry.{Entry}
use Rattle.ckrt_rwlock.specs.declared.records.RwLock.{RwLock}
use Rattle.ckrt_objects.specs.AddressMap.{lookup, removed, stored, is_rising}

-- WHO HOLDS A LOCK

-- nobody: a lock after its initialisation
abbrev pub unheld : RwLock
unheld = record { writer = None; readers = replicate 65 0 }

-- how many read locks the thread has
abbrev pub read_count : ℕ → RwLock → ℕ
read_count t l = slice_index_or l.readers t 0

-- the thread writes
abbrev pub is_writer : ℕ → RwLock → Bool
is_writer t l = holds t l.writer

-- the thread reads
abbrev pub is_reader : ℕ → RwLock → Bool
is_reader t l = nat_lt 0 (read_count t l)

-- the thread holds the lock
abbrev pub is_holder : ℕ → RwLock → Bool
is_holder t l = is_writer t l || is_reader t l

-- a thread writes
abbrev pub is_written : RwLock → Bool
is_written l = is_some l.writer

-- a thread reads
abbrev pub is_read : RwLock → Bool
is_read l = list_any (nat_lt 0) l.readers

-- a thread holds the lock
abbrev pub is_held : RwLock → Bool
is_held l = is_written l || is_read l

-- no reader is beside a writer
abbrev pub is_exclusive : RwLock → Bool
is_exclusive l = not (is_written l && is_read l)

abbrev pub is_thread_or_none : Option ℕ → Bool
is_thread_or_none None = true
is_thread_or_none (Some t) = nat_lt 0 t && nat_le t 64

-- how many read locks of one lock a thread has at most (this project's choice)
abbrev pub MAX_READ_COUNT : ℕ
MAX_READ_COUNT = 65535

-- There is a count for each thread by its number, nothing at 0, and none is above the most.
abbrev pub are_proper_counts : List ℕ → Bool
are_proper_counts ns = length ns == 65 && slice_index_or ns 0 0 == 0 && list_all (λ n. nat_le n MAX_READ_COUNT) ns

-- writer and readers are threads
abbrev pub is_proper : RwLock → Bool
is_proper l = is_thread_or_none l.writer && are_proper_counts l.readers

-- SMALL CHANGES

abbrev pub with_writer : Option ℕ → RwLock → RwLock
with_writer o l = record { writer = o; readers = l.readers }

abbrev pub with_read_count : ℕ → ℕ → RwLock → RwLock
with_read_count t n l = record { writer = l.writer; readers = slice_set l.readers t n }

-- the thread gives up the write lock, or one of its read locks
abbrev pub given_up : ℕ → RwLock → RwLock
given_up t l = if is_writer t l then with_writer None l else with_read_count t (read_count t l - 1) l

-- THE TABLE. A lock that was never initialised is held by nobody (as with PTHREAD_RWLOCK_INITIALIZER).

abbrev pub lock_at : ℕ → List (Entry RwLock) → RwLock
lock_at a ls = unwrap_or (lookup a ls) unheld

-- the table after the lock at an address has become this one
abbrev pub put : ℕ → RwLock → List (Entry RwLock) → List (Entry RwLock)
put a l ls = if is_held l then stored a l ls else removed a ls

pub record IsTable (ls : List (Entry RwLock)) : Type 0 where
  pub rising : is_rising ls ≡ true
  -- each entry says what no entry doesn't say
  pub canonical : list_all (λ e. is_held e.value) ls ≡ true
  pub proper : list_all (λ e. is_proper e.value) ls ≡ true
  pub no_reader_beside_a_writer : list_all (λ e. is_exclusive e.value) ls ≡ true
