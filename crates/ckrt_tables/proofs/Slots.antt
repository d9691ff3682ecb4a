-- Readers and threads by their places: the lemmas of `Puts` and `Rows` at these two.
use Rattle.std.proofs.Common.{◌≡◌, ℕ, suc, ◌+◌, ◌≤◌, ◌<◌, ◌==◌, Bool, true, false, List, [], ◌∷◌, ◌++◌, length, take, get_or, refl}
use Rattle.std.specs.Prelude.{if◌then◌else◌, Option, None}
use Rattle.std.specs.List.{flat_map}
use Rattle.std.proofs.lemmas.Grind.{flat_map-append}
use Rattle.ckrt_thread.specs.declared.records.Thread.{Thread}
use Rattle.ckrt_thread.specs.Contents.{rows_of, rows_from}
use Rattle.ckrt_tables.specs.declared.reading_objects.Reader.{Reader}
use Rattle.ckrt_tables.specs.Records.{reader_at, readers_from, reader_bytes, word_at, words_from, key_entry_bytes, thread_bytes}
use Rattle.ckrt_tables.specs.Writing.{IsPut}
use Rattle.ckrt_tables.proofs.Rows.{from_next}
use Rattle.ckrt_tables.proofs.Puts.{put_place, room_place}

-- READERS

pub length_reader_at : (id n : ℕ) → length (reader_at id n) ≡ (if n == 0 then 0 else 1)
length_reader_at id n = of_test (n == 0)
  where
    of_test : (b : Bool) → length {A = Reader} (if b then [] else (record { id = id; count = n }) ∷ []) ≡ (if b then 0 else 1)
    of_test true = refl
    of_test false = refl

pub readers_next : (ns : List ℕ) (i : ℕ) → i < length ns → readers_from 0 (take (i + 1) ns) ≡ readers_from 0 (take i ns) ++ reader_at i (get_or ns i 0)
readers_next ns i lt = from_next reader_at readers_from (λ k. refl) (λ k n l. refl) ns i 0 lt

pub put_reader_next : (old : List ℕ) (at : ℕ) (ns : List ℕ) (i : ℕ) (now : List ℕ) (mid : ℕ) (new : List ℕ) (end : ℕ) → i < length ns
    → IsPut old at (flat_map reader_bytes (readers_from 0 (take i ns))) now mid → IsPut now mid (flat_map reader_bytes (reader_at i (get_or ns i 0))) new end
    → IsPut old at (flat_map reader_bytes (readers_from 0 (take (i + 1) ns))) new end
put_reader_next old at ns i now mid new end lt first next =
    put_place (λ k n. flat_map reader_bytes (reader_at k n)) (λ k l. flat_map reader_bytes (readers_from k l)) (λ k. refl) (λ k n l. flat_map-append reader_bytes (reader_at k n) (readers_from (suc k) l))
    old at [] ns i 0 now mid new end lt first next

pub room_reader_next : (old : List ℕ) (at : ℕ) (ns : List ℕ) (i : ℕ) (now : List ℕ) (mid : ℕ) → i < length ns
    → IsPut old at (flat_map reader_bytes (readers_from 0 (take i ns))) now mid → at + length (flat_map reader_bytes (readers_from 0 ns)) ≤ length old
    → mid + length (flat_map reader_bytes (reader_at i (get_or ns i 0))) ≤ length old
room_reader_next old at ns i now mid lt first room =
    room_place (λ k n. flat_map reader_bytes (reader_at k n)) (λ k l. flat_map reader_bytes (readers_from k l)) (λ k. refl) (λ k n l. flat_map-append reader_bytes (reader_at k n) (readers_from (suc k) l))
    old at [] ns i 0 now mid lt first room

-- WORDS BY KEY

pub put_word_next : (old : List ℕ) (at : ℕ) (head : List ℕ) (os : List (Option ℕ)) (i : ℕ) (now : List ℕ) (mid : ℕ) (new : List ℕ) (end : ℕ) → i < length os
    → IsPut old at (head ++ flat_map key_entry_bytes (words_from 0 (take i os))) now mid → IsPut now mid (flat_map key_entry_bytes (word_at i (get_or os i None))) new end
    → IsPut old at (head ++ flat_map key_entry_bytes (words_from 0 (take (i + 1) os))) new end
put_word_next old at head os i now mid new end lt first next =
    put_place (λ k o. flat_map key_entry_bytes (word_at k o)) (λ k l. flat_map key_entry_bytes (words_from k l)) (λ k. refl) (λ k o l. flat_map-append key_entry_bytes (word_at k o) (words_from (suc k) l))
    old at head os i None now mid new end lt first next

pub room_word_next : (old : List ℕ) (at : ℕ) (head : List ℕ) (os : List (Option ℕ)) (i : ℕ) (now : List ℕ) (mid : ℕ) → i < length os
    → IsPut old at (head ++ flat_map key_entry_bytes (words_from 0 (take i os))) now mid → at + length (head ++ flat_map key_entry_bytes (words_from 0 os)) ≤ length old
    → mid + length (flat_map key_entry_bytes (word_at i (get_or os i None))) ≤ length old
room_word_next old at head os i now mid lt first room =
    room_place (λ k o. flat_map key_entry_bytes (word_at k o)) (λ k l. flat_map key_entry_bytes (words_from k l)) (λ k. refl) (λ k o l. flat_map-append key_entry_bytes (word_at k o) (words_from (suc k) l))
    old at head os i None now mid lt first room

pub words_next : (os : List (Option ℕ)) (i : ℕ) → i < length os → words_from 0 (take (i + 1) os) ≡ words_from 0 (take i os) ++ word_at i (get_or os i None)
words_next os i lt = from_next word_at words_from (λ k. refl) (λ k o l. refl) os i None lt

-- THREADS

pub put_thread_next : (version : ℕ) (old : List ℕ) (at : ℕ) (head : List ℕ) (ts : List (Option Thread)) (i : ℕ) (now : List ℕ) (mid : ℕ) (new : List ℕ) (end : ℕ) → i < length ts
    → IsPut old at (head ++ flat_map (thread_bytes version) (rows_from 0 (take i ts))) now mid → IsPut now mid (flat_map (thread_bytes version) (rows_of i (get_or ts i None))) new end
    → IsPut old at (head ++ flat_map (thread_bytes version) (rows_from 0 (take (i + 1) ts))) new end
put_thread_next version old at head ts i now mid new end lt first next =
    put_place (λ k t. flat_map (thread_bytes version) (rows_of k t)) (λ k l. flat_map (thread_bytes version) (rows_from k l)) (λ k. refl) (λ k t l. flat_map-append (thread_bytes version) (rows_of k t) (rows_from (suc k) l))
    old at head ts i None now mid new end lt first next

pub room_thread_next : (version : ℕ) (old : List ℕ) (at : ℕ) (head : List ℕ) (ts : List (Option Thread)) (i : ℕ) (now : List ℕ) (mid : ℕ) → i < length ts
    → IsPut old at (head ++ flat_map (thread_bytes version) (rows_from 0 (take i ts))) now mid → at + length (head ++ flat_map (thread_bytes version) (rows_from 0 ts)) ≤ length old
    → mid + length (flat_map (thread_bytes version) (rows_of i (get_or ts i None))) ≤ length old
room_thread_next version old at head ts i now mid lt first room =
    room_place (λ k t. flat_map (thread_bytes version) (rows_of k t)) (λ k l. flat_map (thread_bytes version) (rows_from k l)) (λ k. refl) (λ k t l. flat_map-append (thread_bytes version) (rows_of k t) (rows_from (suc k) l))
    old at head ts i None now mid lt first room
