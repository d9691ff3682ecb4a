-- Texts one behind another.
use Rattle.std.proofs.Common.{◌≡◌, ℕ, suc, ◌+◌, ◌<◌, List, [], ◌++◌, Option, None, length, get_or, take, refl, sym, ◌∙◌, ap, append_assoc}
use Rattle.std.proofs.lemmas.Grind.{flat_map-append}
use Rattle.std.specs.List.{flat_map}
use Rattle.ckrt_thread.specs.declared.records.Thread.{Thread}
use Rattle.ckrt_thread.specs.Contents.{ThreadRow, rows_of, rows_from}
use Rattle.ckrt_tables.specs.declared.reading_keys.KeyEntry.{KeyEntry}
use Rattle.ckrt_tables.specs.Records.{reader_at, readers_from, word_at, words_from}
use Rattle.ckrt_tables.proofs.Puts.{parts_more}
use Rattle.ckrt_tables.proofs.Rows.{from_next}
use Rattle.ckrt_inspect.specs.Listing.{hart_line, hart_lines_from, reader_text}

-- a text, and one behind it
pub pushed_both : (old now new x y : List ℕ) → now ≡ old ++ x → new ≡ now ++ y → new ≡ old ++ (x ++ y)
pushed_both old now new x y first next = next ∙ ap (λ l. l ++ y) first ∙ append_assoc old x y

-- four texts
pub pushed_four : (old a b c new x y z w : List ℕ) → a ≡ old ++ x → b ≡ a ++ y → c ≡ b ++ z → new ≡ c ++ w → new ≡ old ++ (x ++ y ++ z ++ w)
pushed_four old a b c new x y z w p q r s = pushed_both old c new (x ++ y ++ z) w (pushed_both old b c (x ++ y) z (pushed_both old a b x y p q) r) s

-- one row more
pub pushed_row : {X : Type 0} (each : X → List ℕ) (xs : List X) (i : ℕ) (d : X) (old now new : List ℕ) → i < length xs → now ≡ old ++ flat_map each (take i xs) → new ≡ now ++ each (get_or xs i d) → new ≡ old ++ flat_map each (take (i + 1) xs)
pushed_row each xs i d old now new lt first next = pushed_both old now new (flat_map each (take i xs)) (each (get_or xs i d)) first next ∙ ap (λ l. old ++ l) (sym (parts_more [] each xs i d lt))

-- one hart more
pub pushed_hart : (xs : List (Option ℕ)) (i : ℕ) (old now new : List ℕ) → i < length xs → now ≡ old ++ hart_lines_from 0 (take i xs) → new ≡ now ++ hart_line i (get_or xs i None) → new ≡ old ++ hart_lines_from 0 (take (i + 1) xs)
pushed_hart xs i old now new lt first next = pushed_both old now new (hart_lines_from 0 (take i xs)) (hart_line i (get_or xs i None)) first next
    ∙ ap (λ l. old ++ l) (sym (from_next hart_line hart_lines_from (λ k. refl) (λ k x more. refl) xs i None lt))

-- one place of the table of threads more
pub pushed_slot : (line : ThreadRow → List ℕ) (xs : List (Option Thread)) (i : ℕ) (old now new : List ℕ) → i < length xs → now ≡ old ++ flat_map line (rows_from 0 (take i xs)) → new ≡ now ++ flat_map line (rows_of i (get_or xs i None)) → new ≡ old ++ flat_map line (rows_from 0 (take (i + 1) xs))
pushed_slot line xs i old now new lt first next = pushed_both old now new (flat_map line (rows_from 0 (take i xs))) (flat_map line (rows_of i (get_or xs i None))) first next
    ∙ ap (λ l. old ++ l) (sym (from_next (λ k o. flat_map line (rows_of k o)) (λ k os. flat_map line (rows_from k os)) (λ k. refl) (λ k x more. flat_map-append line (rows_of k x) (rows_from (suc k) more)) xs i None lt))

-- one count of a read-write lock more
pub pushed_count : (xs : List ℕ) (i : ℕ) (old now new : List ℕ) → i < length xs → now ≡ old ++ flat_map reader_text (readers_from 0 (take i xs)) → new ≡ now ++ flat_map reader_text (reader_at i (get_or xs i 0)) → new ≡ old ++ flat_map reader_text (readers_from 0 (take (i + 1) xs))
pushed_count xs i old now new lt first next = pushed_both old now new (flat_map reader_text (readers_from 0 (take i xs))) (flat_map reader_text (reader_at i (get_or xs i 0))) first next
    ∙ ap (λ l. old ++ l) (sym (from_next (λ k n. flat_map reader_text (reader_at k n)) (λ k ns. flat_map reader_text (readers_from k ns)) (λ k. refl) (λ k x more. flat_map-append reader_text (reader_at k x) (readers_from (suc k) more)) xs i 0 lt))

-- one word by its key more
pub pushed_word : (line : KeyEntry → List ℕ) (os : List (Option ℕ)) (i : ℕ) (old now new : List ℕ) → i < length os → now ≡ old ++ flat_map line (words_from 0 (take i os)) → new ≡ now ++ flat_map line (word_at i (get_or os i None)) → new ≡ old ++ flat_map line (words_from 0 (take (i + 1) os))
pushed_word line os i old now new lt first next = pushed_both old now new (flat_map line (words_from 0 (take i os))) (flat_map line (word_at i (get_or os i None))) first next
    ∙ ap (λ l. old ++ l) (sym (from_next (λ k o. flat_map line (word_at k o)) (λ k l. flat_map line (words_from k l)) (λ k. refl) (λ k x more. flat_map-append line (word_at k x) (words_from (suc k) more)) os i None lt))
