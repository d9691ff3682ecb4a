-- A mutex, and the table of mutexes (POSIX.1-2017, pthread_mutex_init and pthread_mutexattr_settype).
use Rattle.std.specs.Prelude.{ℕ, ◌==◌, ◌≡◌, nat_lt, nat_le, Bool, true, false, ◌&&◌, ◌||◌, not, if◌then◌else◌, List, Option, Some, None, is_none, is_some, unwrap_or}
use Rattle.std.specs.List.{list_all, filter}
use Rattle.ckrt_objects.specs.declared.address_map.Entry.{Entry}
use Rattle.ckrt_mutex.specs.declared.records.Kind.{Kind}
use Rattle.ckrt_mutex.specs.declared.records.Kind.TheVariants.{Normal, Recursive, ErrorCheck}
use Rattle.ckrt_mutex.specs.declared.records.Mutex.{Mutex}
use Rattle.ckrt_objects.specs.AddressMap.{lookup, removed, stored, is_rising}

abbrev pub is_normal : Kind → Bool
is_normal Normal = true
is_normal Recursive = false
is_normal ErrorCheck = false

abbrev pub is_recursive : Kind → Bool
is_recursive Normal = false
is_recursive Recursive = true
is_recursive ErrorCheck = false

abbrev pub is_errorcheck : Kind → Bool
is_errorcheck Normal = false
is_errorcheck Recursive = false
is_errorcheck ErrorCheck = true

-- how often its owner can lock a recursive mutex: POSIX leaves it open, so this is this project's choice
abbrev pub MAX_RECURSIVE_COUNT : ℕ
MAX_RECURSIVE_COUNT = 65535

-- how often its owner can lock a mutex
abbrev pub max_count : Kind → ℕ
max_count Normal = 1
max_count Recursive = MAX_RECURSIVE_COUNT
max_count ErrorCheck = 1

abbrev pub free : Kind → Mutex
free k = record { kind = k; owner = None; count = 0 }

abbrev pub owned : Kind → ℕ → ℕ → Mutex
owned k t n = record { kind = k; owner = Some t; count = n }

abbrev pub is_owned : Mutex → Bool
is_owned m = is_some m.owner

abbrev pub is_thread : ℕ → Option ℕ → Bool
is_thread t None = false
is_thread t (Some u) = t == u

-- whether the thread owns the mutex
abbrev pub is_owner : ℕ → Mutex → Bool
is_owner t m = is_thread t m.owner

-- A thread can have a mutex at once where it is free, or is recursive and the thread's own.
abbrev pub is_available : ℕ → Mutex → Bool
is_available t m = is_none m.owner || (is_owner t m && is_recursive m.kind)

-- A free mutex is locked 0 times; an owned one is its thread's, and locked as often as its kind allows.
abbrev pub is_proper_count : Kind → ℕ → Option ℕ → Bool
is_proper_count k n None = n == 0
is_proper_count k n (Some t) = nat_lt 0 t && nat_le t 64 && nat_lt 0 n && nat_le n (max_count k)

abbrev pub is_proper : Mutex → Bool
is_proper m = is_proper_count m.kind m.count m.owner

-- THE TABLE. A mutex that was never initialised is free and normal (as with PTHREAD_MUTEX_INITIALIZER).

abbrev pub is_plain : Mutex → Bool
is_plain m = is_normal m.kind && is_none m.owner

abbrev pub mutex_at : ℕ → List (Entry Mutex) → Mutex
mutex_at a ms = unwrap_or (lookup a ms) (free Normal)

-- the table after the mutex at an address has become this one
abbrev pub put : ℕ → Mutex → List (Entry Mutex) → List (Entry Mutex)
put a m ms = if is_plain m then removed a ms else stored a m ms

-- an entry says what no entry doesn't say where its mutex isn't free and normal
abbrev pub is_kept : Entry Mutex → Bool
is_kept e = not (is_plain e.value)

abbrev pub kept : List (Entry Mutex) → List (Entry Mutex)
kept es = filter is_kept es

-- Entries of which some may be of free normal mutexes: such an entry stays until its room is needed (this project's
-- choice), and the table is what is kept of them.
pub record AreEntries (es : List (Entry Mutex)) : Type 0 where
  pub rising : is_rising es ≡ true
  pub proper : list_all (λ e. is_proper e.value) es ≡ true

pub record IsTable (ms : List (Entry Mutex)) : Type 0 where
  pub rising : is_rising ms ≡ true
  -- each entry says what no entry doesn't say
  pub canonical : list_all (λ e. not (is_plain e.value)) ms ≡ true
  pub proper : list_all (λ e. is_proper e.value) ms ≡ true
