-- The words by key are known by those that there are, and what a thread has under keys by them.
use Rattle.std.proofs.Common.{◌≡◌, ℕ, zero, suc, ◌+◌, ◌≤◌, ◌<◌, ◌==◌, Bool, true, false, cond, if◌then◌else◌, List, [], ◌∷◌, ◌++◌, length, length-append, map, get_or, replicate, Option, Some, None, is_none, refl, sym, ap, ◌∙◌, append_assoc, arith}
use Rattle.std.proofs.lemmas.Bool.Decides.{nat_tests}
use Rattle.std.proofs.lemmas.List.{length-map}
use Rattle.std.proofs.Math.Seq.{set-append_seam}
use Rattle.std.specs.Prelude.{slice_set}
use Rattle.std.specs.List.{list_all, flat_map}
use Rattle.ckrt_thread.specs.declared.keys.SpecificData.{SpecificData}
use Rattle.ckrt_thread.specs.Keys.{KeyTable, keys_off, keys_if_proper, are_proper_keys, no_data}
use Rattle.ckrt_thread.proofs.KeyLemmas.{both}
use Rattle.ckrt_tables.specs.Records.{word_at, words_from, key_entry_bytes, if_not_0, word_or_0, value_words, data_bytes, keys_bytes, flag, counted, one_byte}
use Rattle.ckrt_tables.specs.Savable.{if_there, is_byte, is_word, fits_data, is_without_data}
use Rattle.ckrt_tables.specs.DecodingThreads.{fits_key_entry, with_words, AreWords, fits_data_in}

-- WORDS

-- there are no more than keys
pub words_fewer : (k : ℕ) (os : List (Option ℕ)) → length (words_from k os) ≤ length os
words_fewer k [] = omega arith
words_fewer k (None ∷ os) = (let r = words_fewer (suc k) os in omega (arith, r))
words_fewer k (Some w ∷ os) = (let r = words_fewer (suc k) os in omega (arith, r))

-- their numbers fit their fields where there are few keys
pub words_fit : (k : ℕ) (os : List (Option ℕ)) → k + length os ≤ 256 → list_all (if_there is_word) os ≡ true → list_all fits_key_entry (words_from k os) ≡ true
words_fit k [] few f = refl
words_fit k (None ∷ os) few f = words_fit (suc k) os (omega (arith, few)) (grind (arith, nat_tests, f))
words_fit k (Some w ∷ os) few f =
    let rest = words_fit (suc k) os (omega (arith, few)) (grind (arith, nat_tests, f)) in
    let small : is_word k ≡ true = grind (arith, nat_tests, few) in
    let here : is_word w ≡ true = grind (arith, nat_tests, f) in
    grind (arith, nat_tests, here, rest, small)

-- the words behind those of the first keys
words_behind : (k : ℕ) (done os : List (Option ℕ)) → length done ≡ k → with_words (words_from k os) (done ++ replicate (length os) None) ≡ done ++ os
words_behind k done [] at = refl
words_behind k done (None ∷ os) at =
    let none : List (Option ℕ) = replicate (length os) None in
    let size : length (done ++ None ∷ []) ≡ suc k = omega (arith, length-append done (None ∷ []), at) in
    ap (with_words (words_from (suc k) os)) (sym (append_assoc done (None ∷ []) none)) ∙ words_behind (suc k) (done ++ None ∷ []) os size ∙ append_assoc done (None ∷ []) os
words_behind k done (Some w ∷ os) at =
    let none : List (Option ℕ) = replicate (length os) None in
    let size : length (done ++ Some w ∷ []) ≡ suc k = omega (arith, length-append done (Some w ∷ []), at) in
    let here : slice_set (done ++ None ∷ none) k (Some w) ≡ (done ++ Some w ∷ []) ++ none =
    ap (λ i. slice_set (done ++ None ∷ none) i (Some w)) (sym at) ∙ set-append_seam done None none (Some w) ∙ sym (append_assoc done (Some w ∷ []) none) in
    ap (with_words (words_from (suc k) os)) here
    ∙ words_behind (suc k) (done ++ Some w ∷ []) os size
    ∙ append_assoc done (Some w ∷ []) os

-- all words
pub words_found : (os : List (Option ℕ)) → length os ≡ 32 → with_words (words_from 0 os) (replicate 32 None) ≡ os
words_found os size = ap (λ n. with_words (words_from 0 os) (replicate n None)) (sym size) ∙ words_behind 0 [] os refl

pub words_known : (os qs : List (Option ℕ)) → length os ≡ 32 → length qs ≡ 32 → words_from 0 os ≡ words_from 0 qs → os ≡ qs
words_known os qs n m e = sym (words_found os n) ∙ ap (λ ws. with_words ws (replicate 32 None)) e ∙ words_found qs m

-- whatever the key
pub length_word_at : (k : ℕ) (o : Option ℕ) → length (word_at k o) ≡ length (word_at 0 o)
length_word_at k None = refl
length_word_at k (Some w) = refl

pub map_at : {X Y : Type 0} (f : X → Y) (xs : List X) (k : ℕ) (d : X) (e : Y) → k < length xs → get_or (map f xs) k e ≡ f (get_or xs k d)
map_at f [] k d e l = absurd (omega arith)
map_at f (x ∷ xs) zero d e l = refl
map_at f (x ∷ xs) (suc k) d e l = map_at f xs k d e (omega arith)

-- VALUES

value_again : (b : Bool) (v : ℕ) → (v == 0) ≡ b → word_or_0 (cond b None (Some v)) ≡ v
value_again true v e = grind (arith, nat_tests, e)
value_again false v e = refl

pub values_again : (vs : List ℕ) → map word_or_0 (map if_not_0 vs) ≡ vs
values_again [] = refl
values_again (v ∷ vs) = (let here = value_again (v == 0) v refl in let rest = values_again vs in rw (here, rest) refl)

word_if_not_0 : (b : Bool) (v : ℕ) → is_word v ≡ true → if_there is_word (cond b None (Some v)) ≡ true
word_if_not_0 true v f = refl
word_if_not_0 false v f = f

pub words_if_not_0 : (vs : List ℕ) → list_all is_word vs ≡ true → list_all (if_there is_word) (map if_not_0 vs) ≡ true
words_if_not_0 [] f = refl
words_if_not_0 (v ∷ vs) f =
    let here = word_if_not_0 (v == 0) v (both (is_word v) (list_all is_word vs) f).0 in
    let rest = words_if_not_0 vs (both (is_word v) (list_all is_word vs) f).1 in
    grind (arith, here, rest)

-- DATA

pub record FitData (d : SpecificData) : Type 0 where
  pub round : is_byte d.round ≡ true
  pub next_key : is_byte d.next_key ≡ true
  pub size : length d.values ≡ 32
  pub values : list_all is_word d.values ≡ true

pub data_fits : (d : SpecificData) → fits_data d ≡ true → FitData d
data_fits d f =
    let a = both (is_byte d.round) _ f in
    let b = both (is_byte d.next_key) _ a.1 in
    let c = both (length d.values == 32) (list_all is_word d.values) b.1 in
    record { round = a.0; next_key = b.0; size = (let e = c.0 in grind (arith, nat_tests, e)); values = c.1 }

pub words_of_data : (d : SpecificData) → FitData d → AreWords (map if_not_0 d.values)
words_of_data d f = (length-map d.values if_not_0 ∙ f.size, words_if_not_0 d.values f.values)

zeros : (vs : List ℕ) (n : ℕ) → length vs ≡ n → list_all (λ v. v == 0) vs ≡ true → vs ≡ replicate n 0
zeros [] zero l z = refl
zeros [] (suc n) l z = absurd (omega (arith, l))
zeros (v ∷ vs) zero l z = absurd (omega (arith, l))
zeros (v ∷ vs) (suc n) l z =
    let here : v ≡ 0 = (let e = (both (v == 0) (list_all (λ w. w == 0) vs) z).0 in grind (arith, nat_tests, e)) in
    let rest = zeros vs n (omega (arith, l)) (both (v == 0) (list_all (λ w. w == 0) vs) z).1 in
    rw (here, rest) refl

pub same_data : (round next_key : ℕ) (values : List ℕ) (d : SpecificData) → round ≡ d.round → next_key ≡ d.next_key → values ≡ d.values
    → ◌≡◌ {A = SpecificData} (record { values = values; round = round; next_key = next_key }) d
same_data round next_key values d e₁ e₂ e₃ = rw (e₁, e₂, e₃) refl

-- no value and no round is what version 1 says
pub is_no_data : (d : SpecificData) → length d.values ≡ 32 → is_without_data d ≡ true → d ≡ no_data
is_no_data d n b =
    let a = both (d.round == 0) _ b in
    let c = both (d.next_key == 0) (list_all (λ v. v == 0) d.values) a.1 in
    let round : 0 ≡ d.round = (let e = a.0 in grind (arith, nat_tests, e)) in
    let next : 0 ≡ d.next_key = (let e = c.0 in grind (arith, nat_tests, e)) in
    sym (same_data 0 0 (replicate 32 0) d round next (sym (zeros d.values 32 n c.1)))

-- in version 1 there are no bytes, and in any other all of them

pub data_in_1 : (version : ℕ) (d : SpecificData) → version ≡ 1 → fits_data_in version d ≡ true → is_without_data d ≡ true
data_in_1 version d v f =
    let here : (version == 1) ≡ true = grind (arith, nat_tests, v) in
    sym (ap (λ (b : Bool). if b then is_without_data d else true) here) ∙ (both (fits_data d) (if version == 1 then is_without_data d else true) f).1

pub bytes_in_1 : (version : ℕ) (d : SpecificData) (rest : List ℕ) → version ≡ 1 → data_bytes version d ++ rest ≡ rest
bytes_in_1 version d rest v =
    let here : (version == 1) ≡ true = grind (arith, nat_tests, v) in
    ap (λ (b : Bool). (if b then [] else d.round ∷ d.next_key ∷ length (value_words d) ∷ 0 ∷ flat_map key_entry_bytes (value_words d)) ++ rest) here

pub data_not_1 : (version : ℕ) (d : SpecificData) → (version ≡ 1 → ⊥) → data_bytes version d ≡ d.round ∷ d.next_key ∷ length (value_words d) ∷ 0 ∷ flat_map key_entry_bytes (value_words d)
data_not_1 version d v =
    let here : (version == 1) ≡ false = grind (arith, nat_tests, v) in
    ap (λ (b : Bool). if b then [] else d.round ∷ d.next_key ∷ length (value_words d) ∷ 0 ∷ flat_map key_entry_bytes (value_words d)) here

pub bytes_in_2 : (version : ℕ) (d : SpecificData) (rest : List ℕ) → (version ≡ 1 → ⊥)
    → data_bytes version d ++ rest ≡ d.round ∷ d.next_key ∷ length (value_words d) ∷ 0 ∷ (flat_map key_entry_bytes (value_words d) ++ rest)
bytes_in_2 version d rest v =
    let here : (version == 1) ≡ false = grind (arith, nat_tests, v) in
    ap (λ (b : Bool). (if b then [] else d.round ∷ d.next_key ∷ length (value_words d) ∷ 0 ∷ flat_map key_entry_bytes (value_words d)) ++ rest) here

pub few_values : (d : SpecificData) → FitData d → is_byte (length (value_words d)) ≡ true
few_values d f = (let few = words_fewer 0 (map if_not_0 d.values) in let size = length-map d.values if_not_0 in let n = f.size in grind (arith, nat_tests, few, size, n))

-- KEYS

pub same_keys : (is_on : Bool) (destructors : List (Option ℕ)) (keys : KeyTable) → is_on ≡ keys.is_on → destructors ≡ keys.destructors → ◌≡◌ {A = KeyTable} (record { is_on = is_on; destructors = destructors }) keys
same_keys is_on destructors keys e₁ e₂ = rw (e₁, e₂) refl

pub keys_in_1 : (version : ℕ) (keys : KeyTable) (rest : List ℕ) → version ≡ 1 → keys_bytes version keys ++ rest ≡ rest
keys_in_1 version keys rest v =
    let here : (version == 1) ≡ true = grind (arith, nat_tests, v) in
    ap (λ (b : Bool). (if b then [] else flag 1 keys.is_on ∷ counted one_byte key_entry_bytes (words_from 0 keys.destructors)) ++ rest) here

pub keys_not_1 : (version : ℕ) (keys : KeyTable) → (version ≡ 1 → ⊥) → keys_bytes version keys ≡ flag 1 keys.is_on ∷ length (words_from 0 keys.destructors) ∷ flat_map key_entry_bytes (words_from 0 keys.destructors)
keys_not_1 version keys v =
    let here : (version == 1) ≡ false = grind (arith, nat_tests, v) in
    ap (λ (b : Bool). if b then [] else flag 1 keys.is_on ∷ counted one_byte key_entry_bytes (words_from 0 keys.destructors)) here

pub keys_made : (is_on : Bool) (os : List (Option ℕ)) (keys : KeyTable) → is_on ≡ keys.is_on → os ≡ keys.destructors → are_proper_keys keys ≡ true → keys_if_proper (record { is_on = is_on; destructors = os }) ≡ Some keys
keys_made is_on os keys e₁ e₂ p = ap keys_if_proper (same_keys is_on os keys e₁ e₂) ∙ ap (λ (b : Bool). if b then Some keys else None) p

pub few_keys : (os : List (Option ℕ)) → length os ≡ 32 → is_byte (length (words_from 0 os)) ≡ true
few_keys os n = (let few = words_fewer 0 os in grind (arith, nat_tests, few, n))

pub keys_in_2 : (version : ℕ) (keys : KeyTable) (rest : List ℕ) → (version ≡ 1 → ⊥)
    → keys_bytes version keys ++ rest ≡ flag 1 keys.is_on ∷ length (words_from 0 keys.destructors) ∷ (flat_map key_entry_bytes (words_from 0 keys.destructors) ++ rest)
keys_in_2 version keys rest v =
    let here : (version == 1) ≡ false = grind (arith, nat_tests, v) in
    ap (λ (b : Bool). (if b then [] else flag 1 keys.is_on ∷ counted one_byte key_entry_bytes (words_from 0 keys.destructors)) ++ rest) here

none_there : (os : List (Option ℕ)) (n : ℕ) → length os ≡ n → list_all is_none os ≡ true → os ≡ replicate n None
none_there [] zero l z = refl
none_there [] (suc n) l z = absurd (omega (arith, l))
none_there (None ∷ os) zero l z = absurd (omega (arith, l))
none_there (None ∷ os) (suc n) l z = ap (λ r. None ∷ r) (none_there os n (omega (arith, l)) z)
none_there (Some w ∷ os) n l z = absurd (cc)

pub off_keys : (keys : KeyTable) → are_proper_keys keys ≡ true → keys.is_on ≡ false → keys ≡ keys_off
off_keys keys p off =
    let size : length keys.destructors ≡ 32 = grind (arith, nat_tests, p) in
    let none : list_all is_none keys.destructors ≡ true = grind (arith, nat_tests, p, off) in
    sym (same_keys false (replicate 32 None) keys (sym off) (sym (none_there keys.destructors 32 size none)))
