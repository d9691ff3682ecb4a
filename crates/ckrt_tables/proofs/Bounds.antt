-- How many bytes an encoding has at most.
use Rattle.std.proofs.Common.{◌≡◌, ℕ, suc, ◌+◌, ◌*◌, ◌≤◌, ◌==◌, true, false, cond, map, ◌∙◌, Option, Some, None, List, [], ◌∷◌, ◌++◌, length, length-append, refl, ap, arith}
use Rattle.std.specs.Prelude.{slice_get, slice_index_or}
use Rattle.std.specs.List.{list_all, flat_map}
use Rattle.std.specs.Option.{option_flatten}
use Rattle.std.proofs.lemmas.Bool.Decides.{nat_tests}
use Rattle.ckrt_thread.specs.declared.records.Handler.{Handler}
use Rattle.ckrt_thread.specs.declared.records.Thread.{Thread}
use Rattle.ckrt_thread.specs.declared.records.Thread.TheVariants as thread
use Rattle.ckrt_thread.specs.State.{is_proper_slot}
use Rattle.ckrt_thread.specs.Contents.{ThreadRow, rows_from, thread_rows}
use Rattle.ckrt_thread.proofs.ThreadRows.{few_threads}
use Rattle.ckrt_objects.specs.declared.address_map.Entry.{Entry}
use Rattle.ckrt_rwlock.specs.declared.records.RwLock.{RwLock}
use Rattle.ckrt_rwlock.specs.RwLock.{is_proper}
use Rattle.ckrt_calls.specs.declared.table.Tables.{Tables}
use Rattle.ckrt_calls.specs.WellFormed.{IsWellFormed}
use Rattle.ckrt_thread.specs.declared.keys.SpecificData.{SpecificData}
use Rattle.ckrt_thread.specs.Keys.{KeyTable, are_proper_keys}
use Rattle.ckrt_thread.proofs.KeyLemmas.{enough_values}
use Rattle.ckrt_tables.specs.Records.{hart_bytes, handlers_of, handler_bytes, specific_of, if_not_0, words_from, key_entry_bytes, value_words, data_bytes, keys_bytes, thread_bytes, wait_bytes, mutex_bytes, barrier_bytes, reader_at, readers_from, reader_bytes, rwlock_bytes, flag, counted, one_byte}
use Rattle.ckrt_tables.specs.Encoding.{encoding_of, IsHeld}
use Rattle.ckrt_tables.proofs.Few.{few}
use Rattle.ckrt_tables.proofs.Counts.{readers_fewer}
use Rattle.ckrt_tables.proofs.KeyEntries.{words_fewer}
use Rattle.std.proofs.lemmas.List.{length-map}
use Rattle.ckrt_tables.proofs.Lengths.{encoding_length, status_length}

-- records of one size
pub length_each : {X : Type 0} (each : X → List ℕ) (n : ℕ) → ((x : X) → length (each x) ≡ n) → (xs : List X) → length (flat_map each xs) ≡ n * length xs
length_each each n one [] = omega arith
length_each each n one (x ∷ xs) =
    let e : length (each x ++ flat_map each xs) ≡ length (each x) + length (flat_map each xs) = length-append (each x) (flat_map each xs) in
    omega (arith, e, one x, length_each each n one xs)

-- THREADS

words_length : (os : List (Option ℕ)) → length os ≡ 32 → length (flat_map key_entry_bytes (words_from 0 os)) ≤ 256
words_length os n = (let each = length_each key_entry_bytes 8 (λ w. refl) (words_from 0 os) in let few = words_fewer 0 os in omega (arith, each, few, n))

-- what a thread has under keys, by itself
abbrev under_keys : ℕ → ThreadRow → List ℕ
under_keys version r = data_bytes version (specific_of r.thread)

data_bound : (version : ℕ) (d : SpecificData) → length d.values ≡ 32 → length (data_bytes version d) ≤ 260
data_bound version d n =
    let words = words_length (map if_not_0 d.values) (length-map d.values if_not_0 ∙ n) in
    elim (version == 1) as (λ b. length (cond b [] (d.round ∷ d.next_key ∷ length (value_words d) ∷ 0 ∷ flat_map key_entry_bytes (value_words d))) ≤ 260) [
      | true ↦ omega arith
      | false ↦ omega (arith, words)
    ]

keys_bound : (version : ℕ) (keys : KeyTable) → are_proper_keys keys ≡ true → length (keys_bytes version keys) ≤ 258
keys_bound version keys p =
    let size : length keys.destructors ≡ 32 = grind (arith, nat_tests, p) in
    let words = words_length keys.destructors size in
    elim (version == 1) as (λ b. length (cond b [] (flag 1 keys.is_on ∷ counted one_byte key_entry_bytes (words_from 0 keys.destructors))) ≤ 258) [
      | true ↦ omega arith
      | false ↦ omega (arith, words)
    ]

thread_length : (version : ℕ) (r : ThreadRow) → length (thread_bytes version r) ≡ 136 + length (flat_map handler_bytes (handlers_of r.thread)) + length (data_bytes version (specific_of r.thread))
thread_length version r =
    let e = length-append (flat_map handler_bytes (handlers_of r.thread)) (data_bytes version (specific_of r.thread)) in
    omega (arith, e)

specific_size : (t : Thread) → is_proper_slot (Some t) ≡ true → length (specific_of t).values ≡ 32
specific_size (thread.Ended v) is = refl
specific_size (thread.Live l) is = enough_values l is

handlers_length : (hs : List Handler) → length (flat_map handler_bytes hs) ≡ 8 * length hs
handlers_length hs = length_each handler_bytes 8 (λ h. refl) hs

few_handlers : (t : Thread) → is_proper_slot (Some t) ≡ true → length (handlers_of t) ≤ 16
few_handlers (thread.Ended v) is = omega arith
few_handlers (thread.Live l) is = grind (arith, nat_tests, is)

-- all but what they have under keys
threads_bound : (version k : ℕ) (slots : List (Option Thread)) → ((i : ℕ) → is_proper_slot (option_flatten (slice_get slots i)) ≡ true)
    → length (flat_map (thread_bytes version) (rows_from k slots)) ≤ 264 * length (rows_from k slots) + length (flat_map (under_keys version) (rows_from k slots))
threads_bound version k [] is = omega arith
threads_bound version k (None ∷ slots) is = threads_bound version (suc k) slots (λ i. is (suc i))
threads_bound version k (Some t ∷ slots) is =
    let r : ThreadRow = record { id = k; thread = t } in
    let more = threads_bound version (suc k) slots (λ i. is (suc i)) in
    let e : length (thread_bytes version r ++ flat_map (thread_bytes version) (rows_from (suc k) slots)) ≡ length (thread_bytes version r) + length (flat_map (thread_bytes version) (rows_from (suc k) slots)) =
    length-append (thread_bytes version r) (flat_map (thread_bytes version) (rows_from (suc k) slots)) in
    let d : length (under_keys version r ++ flat_map (under_keys version) (rows_from (suc k) slots)) ≡ length (under_keys version r) + length (flat_map (under_keys version) (rows_from (suc k) slots)) =
    length-append (under_keys version r) (flat_map (under_keys version) (rows_from (suc k) slots)) in
    omega (arith, e, d, thread_length version r, handlers_length (handlers_of t), few_handlers t (is 0), more)

under_keys_bound : (version k : ℕ) (slots : List (Option Thread)) → ((i : ℕ) → is_proper_slot (option_flatten (slice_get slots i)) ≡ true)
    → length (flat_map (under_keys version) (rows_from k slots)) ≤ 260 * length (rows_from k slots)
under_keys_bound version k [] is = omega arith
under_keys_bound version k (None ∷ slots) is = under_keys_bound version (suc k) slots (λ i. is (suc i))
under_keys_bound version k (Some t ∷ slots) is =
    let r : ThreadRow = record { id = k; thread = t } in
    let more = under_keys_bound version (suc k) slots (λ i. is (suc i)) in
    let d : length (under_keys version r ++ flat_map (under_keys version) (rows_from (suc k) slots)) ≡ length (under_keys version r) + length (flat_map (under_keys version) (rows_from (suc k) slots)) =
    length-append (under_keys version r) (flat_map (under_keys version) (rows_from (suc k) slots)) in
    let bound : length (under_keys version r) ≤ 260 = data_bound version (specific_of t) (specific_size t (is 0)) in
    omega (arith, d, bound, more)

-- in version 1 it isn't there
under_keys_1 : (rs : List ThreadRow) → length (flat_map (under_keys 1) rs) ≡ 0
under_keys_1 [] = refl
under_keys_1 (r ∷ rs) = under_keys_1 rs

-- READ-WRITE LOCKS

few_readers : (ns : List ℕ) → length ns ≡ 65 → slice_index_or ns 0 0 ≡ 0 → length (readers_from 0 ns) ≤ 64
few_readers [] size none = omega arith
few_readers (n ∷ ns) size none =
    let zero_first : reader_at 0 n ≡ [] = rw none refl in
    let e : length (reader_at 0 n ++ readers_from 1 ns) ≡ length (readers_from 1 ns) = ap (λ l. length (l ++ readers_from 1 ns)) zero_first in
    omega (arith, e, size, readers_fewer 1 ns)

rwlock_length : (e : Entry RwLock) → length (rwlock_bytes e) ≡ 6 + length (flat_map reader_bytes (readers_from 0 e.value.readers))
rwlock_length e = omega arith

rwlocks_bound : (ls : List (Entry RwLock)) → list_all (λ e. is_proper e.value) ls ≡ true → length (flat_map rwlock_bytes ls) ≤ 198 * length ls
rwlocks_bound [] is = omega arith
rwlocks_bound (l ∷ ls) is =
    let here : is_proper l.value ≡ true = grind (arith, is) in
    let there : list_all (λ e. is_proper e.value) ls ≡ true = grind (arith, is) in
    let size : length l.value.readers ≡ 65 = grind (arith, nat_tests, here) in
    let none : slice_index_or l.value.readers 0 0 ≡ 0 = grind (arith, nat_tests, here) in
    let e : length (rwlock_bytes l ++ flat_map rwlock_bytes ls) ≡ length (rwlock_bytes l) + length (flat_map rwlock_bytes ls) = length-append (rwlock_bytes l) (flat_map rwlock_bytes ls) in
    omega (arith, e, rwlock_length l, length_each reader_bytes 3 (λ r. refl) (readers_from 0 l.value.readers), few_readers l.value.readers size none, rwlocks_bound ls there)

-- ALL

-- by the number of records, and what stands there of keys
size_beside_keys : (version : ℕ) (s : Tables) (held : List ℕ) → IsWellFormed s → length (encoding_of version s held) ≤
    34 + (264 * length (thread_rows s.threads) + 20 * length s.threads.waits) + 8 * length s.mutexes + (8 * length s.barriers + 198 * length s.rwlocks) + length s.input + length held
    + (length (flat_map (under_keys version) (thread_rows s.threads)) + length (keys_bytes version s.threads.keys))
size_beside_keys version s held is =
    omega (
      arith,
      encoding_length version s held,
      status_length s.status,
      length_each hart_bytes 1 (λ h. refl) s.threads.harts,
      is.threads.harts,
      threads_bound version 0 s.threads.threads is.threads.proper,
      length_each wait_bytes 20 (λ w. refl) s.threads.waits,
      length_each mutex_bytes 8 (λ m. refl) s.mutexes,
      length_each barrier_bytes 8 (λ b. refl) s.barriers,
      rwlocks_bound s.rwlocks is.rwlocks.table.proper,
    )

-- by the number of records, in whichever version
pub encoding_size : (version : ℕ) (s : Tables) (held : List ℕ) → IsWellFormed s → length (encoding_of version s held) ≤
    36 + (524 * length (thread_rows s.threads) + 20 * length s.threads.waits) + 8 * length s.mutexes + (8 * length s.barriers + 198 * length s.rwlocks) + 256 + length s.input + length held
encoding_size version s held is =
    omega (
      arith,
      size_beside_keys version s held is,
      under_keys_bound version 0 s.threads.threads is.threads.proper,
      keys_bound version s.threads.keys is.threads.proper_keys,
    )

pub encoding_bound : (version : ℕ) (s : Tables) (held : List ℕ) → IsWellFormed s → IsHeld held → length (encoding_of version s held) ≤ 70820
encoding_bound version s held is is_held =
    let at_most = few s is in
    omega (arith, encoding_size version s held is, few_threads s.threads is.threads, at_most.waits, at_most.mutexes, at_most.barriers, at_most.rwlocks, at_most.input, is_held)

pub encoding_bound_1 : (s : Tables) (held : List ℕ) → IsWellFormed s → IsHeld held → length (encoding_of 1 s held) ≤ 53922
encoding_bound_1 s held is is_held =
    let at_most = few s is in
    let keys : length (keys_bytes 1 s.threads.keys) ≡ 0 = refl in
    omega (arith, size_beside_keys 1 s held is, under_keys_1 (thread_rows s.threads), keys, few_threads s.threads is.threads, at_most.waits, at_most.mutexes, at_most.barriers, at_most.rwlocks, at_most.input, is_held)
