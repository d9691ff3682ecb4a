-- Thread-specific data: the keys of a program, and the values that a thread has under them (POSIX.1-2017,
-- pthread_key_create, pthread_key_delete and pthread_setspecific).
use Rattle.std.specs.Prelude.{◌≡◌, ℕ, ◌==◌, ◌%◌, nat_le, Bool, true, false, ◌&&◌, ◌||◌, if◌then◌else◌, List, length, replicate, slice_get, slice_index_or, slice_set, Option, Some, None, is_some, is_none, unwrap_or}
use Rattle.std.specs.List.{list_all, position, range_with_len}
use Rattle.std.specs.Option.{option_flatten}
use Rattle.ckrt_thread.specs.declared.keys.SpecificData.{SpecificData}
use Rattle.ckrt_thread.specs.declared.records.Live.{Live}
use Rattle.ckrt_thread.specs.declared.records.Thread.{Thread}
use Rattle.ckrt_thread.specs.declared.records.Thread.TheVariants as thread

-- how many keys a program may have (this project's choice)
abbrev pub MAX_KEYS : ℕ
MAX_KEYS = 32

-- how many rounds of destructors there are at most (PTHREAD_DESTRUCTOR_ITERATIONS; the number is this project's choice)
abbrev pub DESTRUCTOR_ROUNDS : ℕ
DESTRUCTOR_ROUNDS = 4

-- KEYS. Whether the program may have keys, and what each number stands for: a key, by the address of its destructor (0 for
-- none), or nothing.
pub record KeyTable : Type 0 where
  pub is_on : Bool
  pub destructors : List (Option ℕ)

-- a program that may have keys, and has none yet
abbrev pub no_keys : KeyTable
no_keys = record { is_on = true; destructors = replicate MAX_KEYS None }

-- keys are off: the program has no such calls
abbrev pub keys_off : KeyTable
keys_off = record { is_on = false; destructors = replicate MAX_KEYS None }

-- each number is a key, without a destructor: what a table of threads is built over before its keys are known
abbrev pub all_keys : KeyTable
all_keys = record { is_on = true; destructors = replicate MAX_KEYS (Some 0) }

-- what a number stands for
abbrev pub key_of : KeyTable → ℕ → Option ℕ
key_of keys k = option_flatten (slice_get keys.destructors k)

abbrev pub is_key : KeyTable → ℕ → Bool
is_key keys k = is_some (key_of keys k)

-- 0 where there is no such key, or it has none
abbrev pub destructor_of : KeyTable → ℕ → ℕ
destructor_of keys k = unwrap_or (key_of keys k) 0

-- the least number that is no key
abbrev pub free_key : KeyTable → Option ℕ
free_key keys = position is_none keys.destructors

-- the number stands for this from now on
abbrev pub with_key : ℕ → Option ℕ → KeyTable → KeyTable
with_key k o keys = record keys { destructors = slice_set keys.destructors k o }

-- a destructor begins where an instruction may
abbrev pub is_aligned_key : Option ℕ → Bool
is_aligned_key None = true
is_aligned_key (Some d) = d % 4 == 0

-- There are 32 numbers, destructors are multiples of 4, and a program without such calls has no key.
abbrev pub are_proper_keys : KeyTable → Bool
are_proper_keys keys =
    length keys.destructors == MAX_KEYS
    && list_all is_aligned_key keys.destructors
    && (keys.is_on || list_all is_none keys.destructors)

-- these keys, if a program may have them
abbrev pub keys_if_proper : KeyTable → Option KeyTable
keys_if_proper keys = if are_proper_keys keys then Some keys else None

-- VALUES

-- a thread that has set no value, before its first round of destructors
abbrev pub no_data : SpecificData
no_data = record { values = replicate MAX_KEYS 0; round = 0; next_key = 0 }

-- 0 where none was set
abbrev pub value_under : ℕ → SpecificData → ℕ
value_under k d = slice_index_or d.values k 0

abbrev pub set_under : ℕ → ℕ → SpecificData → SpecificData
set_under k v d = record d { values = slice_set d.values k v }

-- There is a value for each number, there are at most 4 rounds, a round goes on within the numbers or is over, and only a
-- thread that unwinds is in a round.
abbrev pub is_proper_data : Bool → SpecificData → Bool
is_proper_data unwinds d =
    length d.values == MAX_KEYS
    && nat_le d.round DESTRUCTOR_ROUNDS
    && nat_le d.next_key MAX_KEYS
    && (if d.round == 0 then d.next_key == 0 else unwinds)

-- THREADS

abbrev pub data_of : Option Thread → SpecificData
data_of None = no_data
data_of (Some (thread.Ended v)) = no_data
data_of (Some (thread.Live l)) = l.specific

-- it has values only under keys that there are
abbrev pub HasValuesOf : KeyTable → Option Thread → Type 0
HasValuesOf keys o = (k : ℕ) → is_key keys k ≡ false → value_under k (data_of o) ≡ 0

-- the same as a test
abbrev pub is_of_key : KeyTable → SpecificData → ℕ → Bool
is_of_key keys d k = is_key keys k || value_under k d == 0

abbrev pub are_of_keys : KeyTable → SpecificData → Bool
are_of_keys keys d = list_all (is_of_key keys d) (range_with_len 0 MAX_KEYS)

abbrev pub with_data : SpecificData → Live → Live
with_data d l = record l { specific = d }

-- the thread has this value under a key
abbrev pub setting : ℕ → ℕ → Live → Live
setting k v l = with_data (set_under k v l.specific) l
