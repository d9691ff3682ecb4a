-- No two savable states have one encoding: no encoding of a part begins another's.
use Rattle.std.proofs.Common.{◌≡◌, ℕ, zero, suc, ◌+◌, ◌*◌, ◌<◌, ◌≤◌, ◌^◌, ◌==◌, nat_le, Bool, true, false, not, ◌&&◌, cond, if◌then◌else◌, map, Option, Some, None, is_some, unwrap_or, List, [], ◌∷◌, ◌++◌, length, get_or, drop, replicate, refl, sym, ap, ◌∙◌, append_assoc, arith}
use Rattle.std.proofs.lemmas.Bool.Decides.{nat_tests}
use Rattle.std.proofs.lemmas.List.{drop_at, drop_all}
use Rattle.std.proofs.Math.Seq.{drop-cons}
use Rattle.std.specs.List.{list_all, flat_map, range_with_len}
use Rattle.byteorder.specs.Endian.{little_bytes, little_number}
use Rattle.byteorder.specs.Numbers.{little_number-reads_back, length-bytes_low_first}
use Rattle.ckrt_registers.specs.Registers.{Registers}
use Rattle.ckrt_rv32i.specs.declared.execution.Cause.{Cause}
use Rattle.ckrt_rv32i.specs.declared.execution.Cause.TheVariants as cause
use Rattle.ckrt_thread.specs.declared.records.Handler.{Handler}
use Rattle.ckrt_thread.specs.declared.records.Live.{Live}
use Rattle.ckrt_thread.specs.declared.records.Thread.{Thread}
use Rattle.ckrt_thread.specs.declared.records.Thread.TheVariants as thread
use Rattle.ckrt_thread.specs.declared.records.Wait.{Wait}
use Rattle.ckrt_thread.specs.declared.records.Reason.{Reason}
use Rattle.ckrt_thread.specs.declared.records.Reason.TheVariants as reason
use Rattle.ckrt_thread.specs.declared.records.RetakeResult.TheVariants as retake
use Rattle.ckrt_thread.specs.declared.keys.SpecificData.{SpecificData}
use Rattle.ckrt_thread.specs.Keys.{KeyTable, keys_off}
use Rattle.ckrt_thread.specs.Contents.{ThreadRow, rows_from, thread_rows}
use Rattle.ckrt_thread.proofs.KeyLemmas.{both}
use Rattle.ckrt_thread.proofs.ThreadRows.{known_by_rows}
use Rattle.ckrt_objects.specs.declared.address_map.Entry.{Entry}
use Rattle.ckrt_mutex.specs.declared.records.Kind.{Kind}
use Rattle.ckrt_mutex.specs.declared.records.Kind.TheVariants as kind
use Rattle.ckrt_mutex.specs.declared.records.Mutex.{Mutex}
use Rattle.ckrt_barrier.specs.declared.barrier.Barrier.{Barrier}
use Rattle.ckrt_rwlock.specs.declared.records.RwLock.{RwLock}
use Rattle.ckrt_calls.specs.declared.table.Status.TheVariants as status
use Rattle.ckrt_calls.specs.declared.table.Tables.{Tables}
use Rattle.ckrt_calls.specs.WellFormed.{IsWellFormed}
use Rattle.ckrt_tables.specs.declared.reading_objects.Reader.{Reader}
use Rattle.ckrt_tables.specs.declared.reading_keys.KeyEntry.{KeyEntry}
use Rattle.ckrt_tables.specs.Records.{id_or_0, cause_number, cause_from, counted, one_byte, two_bytes, hart_bytes, flag, flags_of, value_of, registers_of, handlers_of, specific_of, registers_bytes, handler_bytes, words_from, key_entry_bytes, if_not_0, word_or_0, value_words, data_bytes, keys_bytes, thread_bytes, kind_of, result_of, first_name, second_name, reason_from, wait_bytes, mutex_kind_number, mutex_bytes, barrier_bytes, readers_from, readers_of, reader_bytes, rwlock_bytes}
use Rattle.ckrt_tables.specs.Encoding.{status_bytes, queue_bytes}
use Rattle.ckrt_tables.specs.DecodingThreads.{fits_key_entry, AreWords}
use Rattle.ckrt_tables.specs.Savable.{is_half, is_word, is_long, if_there, fit_registers, fits_handler, fits_data, fit_keys, is_without_data, is_slot_without_data, is_without_keys, fits_thread, fits_slot, fits_reason, fits_wait, is_id, fits_mutex, fits_barrier, fits_rwlock, fits_status, AreDistinct}
use Rattle.ckrt_tables.specs.Objects.{fits_reader, with_readers}
use Rattle.ckrt_tables.proofs.Counts.{readers_fit, counts_found}
use Rattle.ckrt_tables.proofs.KeyEntries.{words_fit, words_known, values_again, FitData, data_fits, words_of_data, same_data, is_no_data, same_keys, off_keys}
use Rattle.ckrt_tables.proofs.Few.{few}

abbrev pub IsPrefixFree : {X : Type 0} → (X → Type 0) → (X → List ℕ) → Type 0
IsPrefixFree {X = X} Fits encoding = (x y : X) (a b : List ℕ) → Fits x → Fits y → encoding x ++ a ≡ encoding y ++ b → (x ≡ y) × (a ≡ b)

-- NUMBERS AND LISTS

pub number_free : (n : ℕ) → IsPrefixFree (λ x. x < 256 ^ n) (little_bytes n)
number_free n x y a b fx fy e = (
  sym (little_number-reads_back n x a fx) ∙ ap (little_number n) e ∙ little_number-reads_back n y b fy,
  sym (drop_at (little_bytes n x) a n (length-bytes_low_first 0 n x)) ∙ ap (λ l. drop n l) e ∙ drop_at (little_bytes n y) b n (length-bytes_low_first 0 n y),
)

half_free : IsPrefixFree (λ x. is_half x ≡ true) (little_bytes 2)
half_free x y a b fx fy e = number_free 2 x y a b (grind (arith, nat_tests, fx)) (grind (arith, nat_tests, fy)) e

word_free : IsPrefixFree (λ x. is_word x ≡ true) (little_bytes 4)
word_free x y a b fx fy e = number_free 4 x y a b (grind (arith, nat_tests, fx)) (grind (arith, nat_tests, fy)) e

pub long_free : IsPrefixFree (λ x. is_long x ≡ true) (little_bytes 8)
long_free x y a b fx fy e = number_free 8 x y a b (grind (arith, nat_tests, fx)) (grind (arith, nat_tests, fy)) e

pub byte_free : (x y : ℕ) (a b : List ℕ) → x ∷ a ≡ y ∷ b → (x ≡ y) × (a ≡ b)
byte_free x y a b e = (ap (λ l. get_or l 0 0) e, ap (λ l. drop 1 l) e)

pub parts_free : {X : Type 0} (p : X → Bool) (each : X → List ℕ) → IsPrefixFree (λ x. p x ≡ true) each → (xs ys : List X) (a b : List ℕ) → list_all p xs ≡ true → list_all p ys ≡ true
    → length xs ≡ length ys → flat_map each xs ++ a ≡ flat_map each ys ++ b → (xs ≡ ys) × (a ≡ b)
parts_free p each free [] [] a b ps qs n e = (refl, e)
parts_free p each free [] (y ∷ ys) a b ps qs n e = absurd (omega arith)
parts_free p each free (x ∷ xs) [] a b ps qs n e = absurd (omega arith)
parts_free p each free (x ∷ xs) (y ∷ ys) a b ps qs n e =
    let px : p x ≡ true = grind (arith, ps) in
    let py : p y ≡ true = grind (arith, qs) in
    let pxs : list_all p xs ≡ true = grind (arith, ps) in
    let pys : list_all p ys ≡ true = grind (arith, qs) in
    let one = free x y (flat_map each xs ++ a) (flat_map each ys ++ b) px py (sym (append_assoc (each x) (flat_map each xs) a) ∙ e ∙ append_assoc (each y) (flat_map each ys) b) in
    let more = parts_free p each free xs ys a b pxs pys (omega arith) one.1 in
    (ap (λ z. z ∷ xs) one.0 ∙ ap (λ zs. y ∷ zs) more.0, more.1)

pub split_free : (xs ys a b : List ℕ) → length xs ≡ length ys → xs ++ a ≡ ys ++ b → (xs ≡ ys) × (a ≡ b)
split_free [] [] a b n e = (refl, e)
split_free [] (y ∷ ys) a b n e = absurd (omega arith)
split_free (x ∷ xs) [] a b n e = absurd (omega arith)
split_free (x ∷ xs) (y ∷ ys) a b n e =
    let one = byte_free x y (xs ++ a) (ys ++ b) e in
    let more = split_free xs ys a b (omega arith) one.1 in
    (ap (λ z. z ∷ xs) one.0 ∙ ap (λ zs. y ∷ zs) more.0, more.1)

-- BITS AND ABSENT NUMBERS

flag_free : (b c : Bool) → flag 1 b ≡ flag 1 c → b ≡ c
flag_free true true e = refl
flag_free false false e = refl
flag_free true false e = absurd (omega (arith, e))
flag_free false true e = absurd (omega (arith, e))

pub flag_times : (k : ℕ) (b : Bool) → flag k b ≡ k * flag 1 b
flag_times k true = omega arith
flag_times k false = omega arith

flag_few : (k : ℕ) (b : Bool) → flag k b ≤ k
flag_few k true = omega arith
flag_few k false = omega arith

bit_free : (b c : Bool) (m n : ℕ) → flag 1 b + 2 * m ≡ flag 1 c + 2 * n → (b ≡ c) × (m ≡ n)
bit_free true true m n e = (refl, omega (arith, e))
bit_free false false m n e = (refl, omega (arith, e))
bit_free true false m n e = absurd (omega (arith, e))
bit_free false true m n e = absurd (omega (arith, e))

not_free : (b c : Bool) → not b ≡ not c → b ≡ c
not_free true true e = refl
not_free false false e = refl
not_free true false e = absurd (cc)
not_free false true e = absurd (cc)

pub option_free : (o p : Option ℕ) → is_some o ≡ is_some p → unwrap_or o 0 ≡ unwrap_or p 0 → o ≡ p
option_free None None s e = refl
option_free None (Some n) s e = absurd (cc)
option_free (Some m) None s e = absurd (cc)
option_free (Some m) (Some n) s e = ap (λ k. Some k) e

id_free : (o p : Option ℕ) → if_there is_id o ≡ true → if_there is_id p ≡ true → id_or_0 o ≡ id_or_0 p → o ≡ p
id_free None None f g e = refl
id_free None (Some n) f g e = absurd (let z : 0 ≡ n = e in grind (arith, nat_tests, g, z))
id_free (Some m) None f g e = absurd (let z : m ≡ 0 = e in grind (arith, nat_tests, f, z))
id_free (Some m) (Some n) f g e = ap (λ k. Some k) e

pub hart_free : IsPrefixFree (λ h. if_there is_id h ≡ true) hart_bytes
hart_free x y a b fx fy e = (let one = byte_free (id_or_0 x) (id_or_0 y) a b e in (id_free x y fx fy one.0, one.1))

-- THREADS

pub words_at : (xs : List ℕ) (j n : ℕ) → j + n ≡ length xs → flat_map (λ k. little_bytes 4 (get_or xs k 0)) (range_with_len j n) ≡ flat_map (little_bytes 4) (drop j xs)
words_at xs j zero e = ap (flat_map (little_bytes 4)) (sym (drop_all j xs (omega (arith, e))))
words_at xs j (suc n) e =
    let next : suc j ≡ j + 1 = omega arith in
    let rest = words_at xs (j + 1) n (omega (arith, e)) in
    ap (λ l. little_bytes 4 (get_or xs j 0) ++ l) (rest ∙ ap (λ k. flat_map (little_bytes 4) (drop k xs)) (sym next))
    ∙ sym (ap (flat_map (little_bytes 4)) (drop-cons xs j 0 (omega (arith, e))))

pub all_drop : {X : Type 0} (p : X → Bool) (xs : List X) → list_all p xs ≡ true → list_all p (drop 1 xs) ≡ true
all_drop p [] h = refl
all_drop p (x ∷ xs) h = grind (arith, h)

with_first : (xs ys : List ℕ) → 0 < length xs → 0 < length ys → get_or xs 0 0 ≡ get_or ys 0 0 → drop 1 xs ≡ drop 1 ys → xs ≡ ys
with_first [] ys l m e f = absurd (omega (arith, l))
with_first (x ∷ xs) [] l m e f = absurd (omega (arith, m))
with_first (x ∷ xs) (y ∷ ys) l m e f = (let here : x ≡ y = e in let there : xs ≡ ys = f in rw (here, there) refl)

length_drop_1 : (xs : List ℕ) (n : ℕ) → length xs ≡ suc n → length (drop 1 xs) ≡ n
length_drop_1 [] n e = absurd (omega (arith, e))
length_drop_1 (x ∷ xs) n e = omega (arith, e)

pub record FitRegisters (r : Registers) : Type 0 where
  pub pc : is_word r.pc ≡ true
  pub size : length r.x ≡ 32
  pub first : get_or r.x 0 0 ≡ 0
  pub words : list_all is_word r.x ≡ true

pub registers_fit : (r : Registers) → fit_registers r ≡ true → FitRegisters r
registers_fit r f = record {
  pc = grind (arith, nat_tests, f);
  size = grind (arith, nat_tests, f);
  first = grind (arith, nat_tests, f);
  words = grind (arith, nat_tests, f);
}

registers_free : IsPrefixFree (λ r. fit_registers r ≡ true) registers_bytes
registers_free r q a b fr fq e =
    let p = registers_fit r fr in
    let k = registers_fit q fq in
    let spelt : (x : Registers) → length x.x ≡ 32 → (c : List ℕ) → registers_bytes x ++ c ≡ little_bytes 4 x.pc ++ (flat_map (little_bytes 4) (drop 1 x.x) ++ c) =
    λ x n c. ap (λ l. little_bytes 4 x.pc ++ (l ++ c)) (words_at x.x 1 31 (omega (arith, n))) in
    let pcs = word_free r.pc q.pc (flat_map (little_bytes 4) (drop 1 r.x) ++ a) (flat_map (little_bytes 4) (drop 1 q.x) ++ b) p.pc k.pc (sym (spelt r p.size a) ∙ e ∙ spelt q k.size b) in
    let sizes : length (drop 1 r.x) ≡ length (drop 1 q.x) = length_drop_1 r.x 31 p.size ∙ sym (length_drop_1 q.x 31 k.size) in
    let words = parts_free is_word (little_bytes 4) word_free (drop 1 r.x) (drop 1 q.x) a b (all_drop is_word r.x p.words) (all_drop is_word q.x k.words) sizes pcs.1 in
    let xs = with_first r.x q.x (omega (arith, p.size)) (omega (arith, k.size)) (p.first ∙ sym k.first) words.0 in
    (same r.pc r.x q pcs.0 xs, words.1)
  where
    same : (pc : ℕ) (x : List ℕ) (q : Registers) → pc ≡ q.pc → x ≡ q.x → record { pc = pc; x = x } ≡ q
    same pc x q e₁ e₂ = rw (e₁, e₂) refl

handler_free : IsPrefixFree (λ h. fits_handler h ≡ true) handler_bytes
handler_free m k a b fm fk e =
    let ro = word_free m.routine k.routine (little_bytes 4 m.argument ++ a) (little_bytes 4 k.argument ++ b) (grind (arith, nat_tests, fm)) (grind (arith, nat_tests, fk)) e in
    let ar = word_free m.argument k.argument a b (grind (arith, nat_tests, fm)) (grind (arith, nat_tests, fk)) ro.1 in
    (same m.routine m.argument k ro.0 ar.0, ar.1)
  where
    same : (routine argument : ℕ) (k : Handler) → routine ≡ k.routine → argument ≡ k.argument → record { routine = routine; argument = argument } ≡ k
    same routine argument k e₁ e₂ = rw (e₁, e₂) refl

-- what the flags of a thread that has not ended say
record SameFlags (l m : Live) : Type 0 where
  initial : l.initial ≡ m.initial
  detached : l.detached ≡ m.detached
  enabled : l.cancellation.is_enabled ≡ m.cancellation.is_enabled
  asynchronous : l.cancellation.is_asynchronous ≡ m.cancellation.is_asynchronous
  requested : l.cancellation.is_requested ≡ m.cancellation.is_requested
  unwinding : is_some l.cancellation.unwinding ≡ is_some m.cancellation.unwinding

six_free : (a b c d e f a' b' c' d' e' f' : Bool) → flag 1 a + flag 2 b + flag 4 c + flag 8 d + flag 16 e + flag 32 f ≡ flag 1 a' + flag 2 b' + flag 4 c' + flag 8 d' + flag 16 e' + flag 32 f'
    → (a ≡ a') × (b ≡ b') × (c ≡ c') × (d ≡ d') × (e ≡ e') × (f ≡ f')
six_free a b c d e f a' b' c' d' e' f' same =
    let m5 = flag 1 e + 2 * flag 1 f in
    let n5 = flag 1 e' + 2 * flag 1 f' in
    let m4 = flag 1 d + 2 * m5 in
    let n4 = flag 1 d' + 2 * n5 in
    let m3 = flag 1 c + 2 * m4 in
    let n3 = flag 1 c' + 2 * n4 in
    let m2 = flag 1 b + 2 * m3 in
    let n2 = flag 1 b' + 2 * n3 in
    let one = bit_free a a' m2 n2 (omega (arith, same, flag_times 2 b, flag_times 4 c, flag_times 8 d, flag_times 16 e, flag_times 32 f, flag_times 2 b', flag_times 4 c', flag_times 8 d', flag_times 16 e', flag_times 32 f')) in
    let two = bit_free b b' m3 n3 one.1 in
    let three = bit_free c c' m4 n4 two.1 in
    let four = bit_free d d' m5 n5 three.1 in
    let five = bit_free e e' (flag 1 f) (flag 1 f') four.1 in
    (one.0, two.0, three.0, four.0, five.0, flag_free f f' five.1)

flags_free : (l m : Live) → flags_of (thread.Live l) ≡ flags_of (thread.Live m) → SameFlags l m
flags_free l m e =
    let all = six_free l.initial l.detached (not l.cancellation.is_enabled) l.cancellation.is_asynchronous l.cancellation.is_requested (is_some l.cancellation.unwinding)
    m.initial m.detached (not m.cancellation.is_enabled) m.cancellation.is_asynchronous m.cancellation.is_requested (is_some m.cancellation.unwinding) e in
    record {
      initial = all.0;
      detached = all.1;
      enabled = not_free l.cancellation.is_enabled m.cancellation.is_enabled all.2;
      asynchronous = all.3;
      requested = all.4;
      unwinding = all.5;
    }

pub live_below_64 : (l : Live) → flags_of (thread.Live l) < 64
live_below_64 l = omega (arith, flag_few 1 l.initial, flag_few 2 l.detached, flag_few 4 (not l.cancellation.is_enabled), flag_few 8 l.cancellation.is_asynchronous, flag_few 16 l.cancellation.is_requested, flag_few 32 (is_some l.cancellation.unwinding))

-- what the bytes of a thread say of it
pub record SameThread (x y : Thread) : Type 0 where
  pub flags : flags_of x ≡ flags_of y
  pub value : value_of x ≡ value_of y
  pub registers : registers_of x ≡ registers_of y
  pub handlers : handlers_of x ≡ handlers_of y
  pub specific : specific_of x ≡ specific_of y

pub thread_known : (x y : Thread) → SameThread x y → x ≡ y
thread_known (thread.Ended v) (thread.Ended w) s = ap (λ n. thread.Ended n) s.value
thread_known (thread.Ended v) (thread.Live m) s = absurd (let f = s.flags in let b = live_below_64 m in omega (arith, f, b))
thread_known (thread.Live l) (thread.Ended w) s = absurd (let f = s.flags in let b = live_below_64 l in omega (arith, f, b))
thread_known (thread.Live l) (thread.Live m) s =
    let f = flags_free l m s.flags in
    let u = option_free l.cancellation.unwinding m.cancellation.unwinding f.unwinding s.value in
    let r = s.registers in
    let h = s.handlers in
    let k = s.specific in
    let same : record { regs = l.regs; initial = l.initial; detached = l.detached; cancellation = record { is_enabled = l.cancellation.is_enabled; is_asynchronous = l.cancellation.is_asynchronous; is_requested = l.cancellation.is_requested; unwinding = l.cancellation.unwinding }; handlers = record { items = l.handlers.items }; specific = l.specific } ≡ m =
    rw (r, f.initial, f.detached, f.enabled, f.asynchronous, f.requested, u, h, k) refl in
    ap (λ z. thread.Live z) same

pub record FitThread (x : Thread) : Type 0 where
  pub value : is_word (value_of x) ≡ true
  pub registers : fit_registers (registers_of x) ≡ true
  pub handlers : list_all fits_handler (handlers_of x) ≡ true
  pub specific : fits_data (specific_of x) ≡ true

value_fits : (o : Option ℕ) → if_there is_word o ≡ true → is_word (unwrap_or o 0) ≡ true
value_fits None f = refl
value_fits (Some n) f = f

pub live_rest : (l : Live) → fits_thread (thread.Live l) ≡ true → (list_all fits_handler l.handlers.items && fits_data l.specific) ≡ true
live_rest l f = (both (nat_le (length l.handlers.items) 16) _ (both (if_there is_word l.cancellation.unwinding) _ (both (fit_registers l.regs) _ f).1).1).1

pub thread_fits : (x : Thread) → fits_thread x ≡ true → FitThread x
thread_fits (thread.Ended v) f = record { value = f; registers = refl; handlers = refl; specific = refl }
thread_fits (thread.Live l) f = record {
  value = value_fits l.cancellation.unwinding (both (if_there is_word l.cancellation.unwinding) _ (both (fit_registers l.regs) _ f).1).0;
  registers = (both (fit_registers l.regs) _ f).0;
  handlers = (both (list_all fits_handler l.handlers.items) _ (live_rest l f)).0;
  specific = (both (list_all fits_handler l.handlers.items) (fits_data l.specific) (live_rest l f)).1;
}

pub spelt : (v r h d a : List ℕ) → (v ++ (r ++ (h ++ d))) ++ a ≡ v ++ (r ++ (h ++ (d ++ a)))
spelt v r h d a = append_assoc v (r ++ (h ++ d)) a ∙ ap (λ l. v ++ l) (append_assoc r (h ++ d) a ∙ ap (λ l. r ++ l) (append_assoc h d a))

-- what a thread has under keys

key_word_free : IsPrefixFree (λ w. fits_key_entry w ≡ true) key_entry_bytes
key_word_free w v a b fw fv e =
    let k = word_free w.key v.key (little_bytes 4 w.word ++ a) (little_bytes 4 v.word ++ b) (both (is_word w.key) (is_word w.word) fw).0 (both (is_word v.key) (is_word v.word) fv).0 (sym (append_assoc (little_bytes 4 w.key) (little_bytes 4 w.word) a) ∙ e ∙ append_assoc (little_bytes 4 v.key) (little_bytes 4 v.word) b) in
    let x = word_free w.word v.word a b (both (is_word w.key) (is_word w.word) fw).1 (both (is_word v.key) (is_word v.word) fv).1 k.1 in
    (same w.key w.word v k.0 x.0, x.1)
  where
    same : (key word : ℕ) (v : KeyEntry) → key ≡ v.key → word ≡ v.word → record { key = key; word = word } ≡ v
    same key word v e₁ e₂ = rw (e₁, e₂) refl

-- words of 32 keys
pub words_free : (os qs : List (Option ℕ)) (a b : List ℕ) → AreWords os → AreWords qs → length (words_from 0 os) ≡ length (words_from 0 qs)
    → flat_map key_entry_bytes (words_from 0 os) ++ a ≡ flat_map key_entry_bytes (words_from 0 qs) ++ b → (os ≡ qs) × (a ≡ b)
words_free os qs a b f g n e =
    let so = f.0 in
    let sq = g.0 in
    let w = parts_free fits_key_entry key_entry_bytes key_word_free (words_from 0 os) (words_from 0 qs) a b (words_fit 0 os (omega (arith, so)) f.1) (words_fit 0 qs (omega (arith, sq)) g.1) n e in
    (words_known os qs f.0 g.0 w.0, w.1)

abbrev full_data : SpecificData → List ℕ
full_data d = d.round ∷ d.next_key ∷ length (value_words d) ∷ 0 ∷ flat_map key_entry_bytes (value_words d)

full_data_free : (d c : SpecificData) (a b : List ℕ) → FitData d → FitData c → full_data d ++ a ≡ full_data c ++ b → (d ≡ c) × (a ≡ b)
full_data_free d c a b f g e =
    let da = flat_map key_entry_bytes (value_words d) ++ a in
    let ca = flat_map key_entry_bytes (value_words c) ++ b in
    let r = byte_free d.round c.round (d.next_key ∷ length (value_words d) ∷ 0 ∷ da) (c.next_key ∷ length (value_words c) ∷ 0 ∷ ca) e in
    let k = byte_free d.next_key c.next_key (length (value_words d) ∷ 0 ∷ da) (length (value_words c) ∷ 0 ∷ ca) r.1 in
    let n = byte_free (length (value_words d)) (length (value_words c)) (0 ∷ da) (0 ∷ ca) k.1 in
    let z = byte_free 0 0 da ca n.1 in
    let w = words_free (map if_not_0 d.values) (map if_not_0 c.values) a b (words_of_data d f) (words_of_data c g) n.0 z.1 in
    let values : d.values ≡ c.values = sym (values_again d.values) ∙ ap (map word_or_0) w.0 ∙ values_again c.values in
    (same_data d.round d.next_key d.values c r.0 k.0 values, w.1)

data_free : (version : ℕ) (d c : SpecificData) (a b : List ℕ) → fits_data d ≡ true → fits_data c ≡ true → (version ≡ 1 → (is_without_data d ≡ true) × (is_without_data c ≡ true))
    → data_bytes version d ++ a ≡ data_bytes version c ++ b → (d ≡ c) × (a ≡ b)
data_free version d c a b f g bare e =
    elim (version == 1) as (λ x. (version == 1) ≡ x → cond x [] (full_data d) ++ a ≡ cond x [] (full_data c) ++ b → (d ≡ c) × (a ≡ b)) [
      | true ↦ λ v q.
          let is : version ≡ 1 = grind (arith, nat_tests, v) in
          let bs = bare is in
          (is_no_data d (data_fits d f).size bs.0 ∙ sym (is_no_data c (data_fits c g).size bs.1), q)
      | false ↦ λ v q. full_data_free d c a b (data_fits d f) (data_fits c g) q
    ] refl e

-- the keys of a program
abbrev full_keys : KeyTable → List ℕ
full_keys k = flag 1 k.is_on ∷ counted one_byte key_entry_bytes (words_from 0 k.destructors)

full_keys_free : (k q : KeyTable) (a b : List ℕ) → AreWords k.destructors → AreWords q.destructors → full_keys k ++ a ≡ full_keys q ++ b → (k ≡ q) × (a ≡ b)
full_keys_free k q a b f g e =
    let ka = flat_map key_entry_bytes (words_from 0 k.destructors) ++ a in
    let qa = flat_map key_entry_bytes (words_from 0 q.destructors) ++ b in
    let o = byte_free (flag 1 k.is_on) (flag 1 q.is_on) (length (words_from 0 k.destructors) ∷ ka) (length (words_from 0 q.destructors) ∷ qa) e in
    let n = byte_free (length (words_from 0 k.destructors)) (length (words_from 0 q.destructors)) ka qa o.1 in
    let w = words_free k.destructors q.destructors a b f g n.0 n.1 in
    (same_keys k.is_on k.destructors q (flag_free k.is_on q.is_on o.0) w.0, w.1)

keys_free : (version : ℕ) (k q : KeyTable) (a b : List ℕ) → AreWords k.destructors → AreWords q.destructors → (version ≡ 1 → (k ≡ keys_off) × (q ≡ keys_off))
    → keys_bytes version k ++ a ≡ keys_bytes version q ++ b → (k ≡ q) × (a ≡ b)
keys_free version k q a b f g off e =
    elim (version == 1) as (λ x. (version == 1) ≡ x → cond x [] (full_keys k) ++ a ≡ cond x [] (full_keys q) ++ b → (k ≡ q) × (a ≡ b)) [
      | true ↦ λ v z.
          let is : version ≡ 1 = grind (arith, nat_tests, v) in
          let os = off is in
          (os.0 ∙ sym os.1, z)
      | false ↦ λ v z. full_keys_free k q a b f g z
    ] refl e

-- a thread that fits its record in a version
abbrev fits_in : ℕ → ThreadRow → Bool
fits_in version r = fits_thread r.thread && (if version == 1 then is_without_data (specific_of r.thread) else true)

row_without_data : (version : ℕ) (r : ThreadRow) → fits_in version r ≡ true → version ≡ 1 → is_without_data (specific_of r.thread) ≡ true
row_without_data version r f v =
    let here : (version == 1) ≡ true = grind (arith, nat_tests, v) in
    let c = (both (fits_thread r.thread) (if version == 1 then is_without_data (specific_of r.thread) else true) f).1 in
    sym (ap (λ (b : Bool). if b then is_without_data (specific_of r.thread) else true) here) ∙ c

thread_free : (version : ℕ) → IsPrefixFree (λ (r : ThreadRow). fits_in version r ≡ true) (thread_bytes version)
thread_free version r q a b fr fq e =
    let p = thread_fits r.thread (both (fits_thread r.thread) _ fr).0 in
    let k = thread_fits q.thread (both (fits_thread q.thread) _ fq).0 in
    let rv = little_bytes 4 (value_of r.thread) in
    let rr = registers_bytes (registers_of r.thread) in
    let rh = flat_map handler_bytes (handlers_of r.thread) in
    let rd = data_bytes version (specific_of r.thread) in
    let qv = little_bytes 4 (value_of q.thread) in
    let qr = registers_bytes (registers_of q.thread) in
    let qh = flat_map handler_bytes (handlers_of q.thread) in
    let qd = data_bytes version (specific_of q.thread) in
    let ra = (rv ++ (rr ++ (rh ++ rd))) ++ a in
    let qa = (qv ++ (qr ++ (qh ++ qd))) ++ b in
    let i = byte_free r.id q.id (flags_of r.thread ∷ length (handlers_of r.thread) ∷ 0 ∷ ra) (flags_of q.thread ∷ length (handlers_of q.thread) ∷ 0 ∷ qa) e in
    let f = byte_free (flags_of r.thread) (flags_of q.thread) (length (handlers_of r.thread) ∷ 0 ∷ ra) (length (handlers_of q.thread) ∷ 0 ∷ qa) i.1 in
    let n = byte_free (length (handlers_of r.thread)) (length (handlers_of q.thread)) (0 ∷ ra) (0 ∷ qa) f.1 in
    let z = byte_free 0 0 ra qa n.1 in
    let v = word_free (value_of r.thread) (value_of q.thread) (rr ++ (rh ++ (rd ++ a))) (qr ++ (qh ++ (qd ++ b))) p.value k.value (sym (spelt rv rr rh rd a) ∙ z.1 ∙ spelt qv qr qh qd b) in
    let g = registers_free (registers_of r.thread) (registers_of q.thread) (rh ++ (rd ++ a)) (qh ++ (qd ++ b)) p.registers k.registers v.1 in
    let h = parts_free fits_handler handler_bytes handler_free (handlers_of r.thread) (handlers_of q.thread) (rd ++ a) (qd ++ b) p.handlers k.handlers n.0 g.1 in
    let d = data_free version (specific_of r.thread) (specific_of q.thread) a b p.specific k.specific (λ x. (row_without_data version r fr x, row_without_data version q fq x)) h.1 in
    let t = thread_known r.thread q.thread (record { flags = f.0; value = v.0; registers = g.0; handlers = h.0; specific = d.0 }) in
    (same r.id r.thread q i.0 t, d.1)
  where
    same : (id : ℕ) (x : Thread) (q : ThreadRow) → id ≡ q.id → x ≡ q.thread → record { id = id; thread = x } ≡ q
    same id x q e₁ e₂ = rw (e₁, e₂) refl

specific_without_data : (t : Thread) → is_slot_without_data (Some t) ≡ true → is_without_data (specific_of t) ≡ true
specific_without_data (thread.Ended v) b = refl
specific_without_data (thread.Live l) b = b

pub in_version : (version : ℕ) (t : Thread) → (version ≡ 1 → is_slot_without_data (Some t) ≡ true) → (if version == 1 then is_without_data (specific_of t) else true) ≡ true
in_version version t b =
    elim (version == 1) as (λ x. (version == 1) ≡ x → cond x (is_without_data (specific_of t)) true ≡ true) [
      | true ↦ λ v. specific_without_data t (b (grind (arith, nat_tests, v)))
      | false ↦ λ v. refl
    ] refl

pub rows_fit : (version k : ℕ) (slots : List (Option Thread)) → list_all fits_slot slots ≡ true → (version ≡ 1 → list_all is_slot_without_data slots ≡ true) → list_all (fits_in version) (rows_from k slots) ≡ true
rows_fit version k [] f b = refl
rows_fit version k (None ∷ slots) f b = rows_fit version (suc k) slots (both (fits_slot None) (list_all fits_slot slots) f).1 (λ v. (both (is_slot_without_data None) (list_all is_slot_without_data slots) (b v)).1)
rows_fit version k (Some x ∷ slots) f b =
    let rest = rows_fit version (suc k) slots (both (fits_slot (Some x)) (list_all fits_slot slots) f).1 (λ v. (both (is_slot_without_data (Some x)) (list_all is_slot_without_data slots) (b v)).1) in
    let here = (both (fits_slot (Some x)) (list_all fits_slot slots) f).0 in
    let bare = in_version version x (λ v. (both (is_slot_without_data (Some x)) (list_all is_slot_without_data slots) (b v)).0) in
    grind (arith, here, bare, rest)

-- WAITS

pub reason_is : (r : Reason) → fits_reason r ≡ true → reason_from (kind_of r) (result_of r) (first_name r) (second_name r) ≡ r
reason_is (reason.Join id) f = ap (λ k. reason.Join k) (let small : id < 256 = grind (arith, nat_tests, f) in omega (arith, small))
reason_is (reason.Lock a) f = refl
reason_is (reason.Retake a retake.Done) f = refl
reason_is (reason.Retake a retake.TimedOut) f = refl
reason_is (reason.Retake a retake.Unwind) f = refl
reason_is (reason.Condition c a) f = refl
reason_is (reason.Barrier a) f = refl
reason_is (reason.Read a) f = refl
reason_is (reason.Write a) f = refl
reason_is reason.Input f = refl
reason_is reason.Sleep f = refl

reason_known : (r q : Reason) → fits_reason r ≡ true → fits_reason q ≡ true → kind_of r ≡ kind_of q → result_of r ≡ result_of q → first_name r ≡ first_name q → second_name r ≡ second_name q → r ≡ q
reason_known r q fr fq k n a b =
    sym (reason_is r fr)
    ∙ ap (λ x. reason_from x (result_of r) (first_name r) (second_name r)) k
    ∙ ap (λ x. reason_from (kind_of q) x (first_name r) (second_name r)) n
    ∙ ap (λ x. reason_from (kind_of q) (result_of q) x (second_name r)) a
    ∙ ap (λ x. reason_from (kind_of q) (result_of q) (first_name q) x) b
    ∙ reason_is q fq

pub names_fit : (r : Reason) → fits_reason r ≡ true → (is_word (first_name r) ≡ true) × (is_word (second_name r) ≡ true)
names_fit (reason.Join id) f = (grind (arith, nat_tests, f), refl)
names_fit (reason.Lock a) f = (f, refl)
names_fit (reason.Retake a r) f = (f, refl)
names_fit (reason.Condition c a) f = (grind (arith, nat_tests, f), grind (arith, nat_tests, f))
names_fit (reason.Barrier a) f = (f, refl)
names_fit (reason.Read a) f = (f, refl)
names_fit (reason.Write a) f = (f, refl)
names_fit reason.Input f = (refl, refl)
names_fit reason.Sleep f = (refl, refl)

pub moment_fits : (o : Option ℕ) → if_there is_long o ≡ true → is_long (unwrap_or o 0) ≡ true
moment_fits None f = refl
moment_fits (Some n) f = f

wait_free : IsPrefixFree (λ w. fits_wait w ≡ true) wait_bytes
wait_free w v a b fw fv e =
    let p = names_fit w.reason (grind (arith, nat_tests, fw)) in
    let q = names_fit v.reason (grind (arith, nat_tests, fv)) in
    let wm = little_bytes 8 (unwrap_or w.deadline 0) ++ a in
    let vm = little_bytes 8 (unwrap_or v.deadline 0) ++ b in
    let ws = little_bytes 4 (first_name w.reason) ++ (little_bytes 4 (second_name w.reason) ++ wm) in
    let vs = little_bytes 4 (first_name v.reason) ++ (little_bytes 4 (second_name v.reason) ++ vm) in
    let t = byte_free w.thread v.thread (kind_of w.reason ∷ result_of w.reason ∷ flag 1 (is_some w.deadline) ∷ ws) (kind_of v.reason ∷ result_of v.reason ∷ flag 1 (is_some v.deadline) ∷ vs) e in
    let k = byte_free (kind_of w.reason) (kind_of v.reason) (result_of w.reason ∷ flag 1 (is_some w.deadline) ∷ ws) (result_of v.reason ∷ flag 1 (is_some v.deadline) ∷ vs) t.1 in
    let r = byte_free (result_of w.reason) (result_of v.reason) (flag 1 (is_some w.deadline) ∷ ws) (flag 1 (is_some v.deadline) ∷ vs) k.1 in
    let d = byte_free (flag 1 (is_some w.deadline)) (flag 1 (is_some v.deadline)) ws vs r.1 in
    let x = word_free (first_name w.reason) (first_name v.reason) (little_bytes 4 (second_name w.reason) ++ wm) (little_bytes 4 (second_name v.reason) ++ vm) p.0 q.0 d.1 in
    let y = word_free (second_name w.reason) (second_name v.reason) wm vm p.1 q.1 x.1 in
    let m = long_free (unwrap_or w.deadline 0) (unwrap_or v.deadline 0) a b (moment_fits w.deadline (grind (arith, nat_tests, fw))) (moment_fits v.deadline (grind (arith, nat_tests, fv))) y.1 in
    let reason = reason_known w.reason v.reason (grind (arith, nat_tests, fw)) (grind (arith, nat_tests, fv)) k.0 r.0 x.0 y.0 in
    let deadline = option_free w.deadline v.deadline (flag_free (is_some w.deadline) (is_some v.deadline) d.0) m.0 in
    (same w.thread w.reason w.deadline v t.0 reason deadline, m.1)
  where
    same : (thread : ℕ) (r : Reason) (deadline : Option ℕ) (v : Wait) → thread ≡ v.thread → r ≡ v.reason → deadline ≡ v.deadline → record { thread = thread; reason = r; deadline = deadline } ≡ v
    same thread r deadline v e₁ e₂ e₃ = rw (e₁, e₂, e₃) refl

-- MUTEXES, BARRIERS AND READ-WRITE LOCKS

kind_known : (k j : Kind) → mutex_kind_number k ≡ mutex_kind_number j → k ≡ j
kind_known kind.Normal kind.Normal e = refl
kind_known kind.Normal kind.Recursive e = absurd (omega (arith, e))
kind_known kind.Normal kind.ErrorCheck e = absurd (omega (arith, e))
kind_known kind.Recursive kind.Normal e = absurd (omega (arith, e))
kind_known kind.Recursive kind.Recursive e = refl
kind_known kind.Recursive kind.ErrorCheck e = absurd (omega (arith, e))
kind_known kind.ErrorCheck kind.Normal e = absurd (omega (arith, e))
kind_known kind.ErrorCheck kind.Recursive e = absurd (omega (arith, e))
kind_known kind.ErrorCheck kind.ErrorCheck e = refl

mutex_free : IsPrefixFree (λ e. fits_mutex e ≡ true) mutex_bytes
mutex_free m k a b fm fk e =
    let mc = little_bytes 2 m.value.count ++ a in
    let kc = little_bytes 2 k.value.count ++ b in
    let ad = word_free m.address k.address (mutex_kind_number m.value.kind ∷ id_or_0 m.value.owner ∷ mc) (mutex_kind_number k.value.kind ∷ id_or_0 k.value.owner ∷ kc) (grind (arith, nat_tests, fm)) (grind (arith, nat_tests, fk)) e in
    let ki = byte_free (mutex_kind_number m.value.kind) (mutex_kind_number k.value.kind) (id_or_0 m.value.owner ∷ mc) (id_or_0 k.value.owner ∷ kc) ad.1 in
    let ow = byte_free (id_or_0 m.value.owner) (id_or_0 k.value.owner) mc kc ki.1 in
    let co = half_free m.value.count k.value.count a b (grind (arith, nat_tests, fm)) (grind (arith, nat_tests, fk)) ow.1 in
    let owner = id_free m.value.owner k.value.owner (grind (arith, nat_tests, fm)) (grind (arith, nat_tests, fk)) ow.0 in
    (same m.address m.value.kind m.value.owner m.value.count k ad.0 (kind_known m.value.kind k.value.kind ki.0) owner co.0, co.1)
  where
    same : (address : ℕ) (x : Kind) (owner : Option ℕ) (count : ℕ) (k : Entry Mutex) → address ≡ k.address → x ≡ k.value.kind → owner ≡ k.value.owner → count ≡ k.value.count → record { address = address; value = record { kind = x; owner = owner; count = count } } ≡ k
    same address x owner count k e₁ e₂ e₃ e₄ = rw (e₁, e₂, e₃, e₄) refl

barrier_free : IsPrefixFree (λ e. fits_barrier e ≡ true) barrier_bytes
barrier_free m k a b fm fk e =
    let ad = word_free m.address k.address (little_bytes 4 m.value.count ++ a) (little_bytes 4 k.value.count ++ b) (grind (arith, nat_tests, fm)) (grind (arith, nat_tests, fk)) e in
    let co = word_free m.value.count k.value.count a b (grind (arith, nat_tests, fm)) (grind (arith, nat_tests, fk)) ad.1 in
    (same m.address m.value.count k ad.0 co.0, co.1)
  where
    same : (address count : ℕ) (k : Entry Barrier) → address ≡ k.address → count ≡ k.value.count → record { address = address; value = record { count = count } } ≡ k
    same address count k e₁ e₂ = rw (e₁, e₂) refl

reader_free : IsPrefixFree (λ r. fits_reader r ≡ true) reader_bytes
reader_free m k a b fm fk e =
    let id = byte_free m.id k.id (little_bytes 2 m.count ++ a) (little_bytes 2 k.count ++ b) e in
    let co = half_free m.count k.count a b (grind (arith, nat_tests, fm)) (grind (arith, nat_tests, fk)) id.1 in
    (same m.id m.count k id.0 co.0, co.1)
  where
    same : (id count : ℕ) (k : Reader) → id ≡ k.id → count ≡ k.count → record { id = id; count = count } ≡ k
    same id count k e₁ e₂ = rw (e₁, e₂) refl

-- counts are known by the readers that they are

counts_known : (ns ms : List ℕ) → length ns ≡ 65 → length ms ≡ 65 → readers_from 0 ns ≡ readers_from 0 ms → ns ≡ ms
counts_known ns ms sn sm e = sym (counts_found ns sn) ∙ ap (λ rs. with_readers rs (replicate 65 0)) e ∙ counts_found ms sm

rwlock_free : IsPrefixFree (λ e. fits_rwlock e ≡ true) rwlock_bytes
rwlock_free m k a b fm fk e =
    let mr = flat_map reader_bytes (readers_of m.value) ++ a in
    let kr = flat_map reader_bytes (readers_of k.value) ++ b in
    let ad = word_free m.address k.address (id_or_0 m.value.writer ∷ length (readers_of m.value) ∷ mr) (id_or_0 k.value.writer ∷ length (readers_of k.value) ∷ kr) (grind (arith, nat_tests, fm)) (grind (arith, nat_tests, fk)) e in
    let wr = byte_free (id_or_0 m.value.writer) (id_or_0 k.value.writer) (length (readers_of m.value) ∷ mr) (length (readers_of k.value) ∷ kr) ad.1 in
    let n = byte_free (length (readers_of m.value)) (length (readers_of k.value)) mr kr wr.1 in
    let sm : length m.value.readers ≡ 65 = grind (arith, nat_tests, fm) in
    let sk : length k.value.readers ≡ 65 = grind (arith, nat_tests, fk) in
    let pm = readers_fit 0 m.value.readers (omega (arith, sm)) (grind (arith, nat_tests, fm)) in
    let pk = readers_fit 0 k.value.readers (omega (arith, sk)) (grind (arith, nat_tests, fk)) in
    let re = parts_free fits_reader reader_bytes reader_free (readers_of m.value) (readers_of k.value) a b pm pk n.0 n.1 in
    let readers = counts_known m.value.readers k.value.readers sm sk re.0 in
    let writer = id_free m.value.writer k.value.writer (grind (arith, nat_tests, fm)) (grind (arith, nat_tests, fk)) wr.0 in
    (same m.address m.value.writer m.value.readers k ad.0 writer readers, re.1)
  where
    same : (address : ℕ) (writer : Option ℕ) (readers : List ℕ) (k : Entry RwLock) → address ≡ k.address → writer ≡ k.value.writer → readers ≡ k.value.readers → record { address = address; value = record { writer = writer; readers = readers } } ≡ k
    same address writer readers k e₁ e₂ e₃ = rw (e₁, e₂, e₃) refl

-- THE STATUS

pub cause_is : (c : Cause) → cause_from (cause_number c) ≡ c
cause_is cause.FetchRange = refl
cause_is cause.Illegal = refl
cause_is cause.JumpMisaligned = refl
cause_is cause.LoadMisaligned = refl
cause_is cause.LoadRange = refl
cause_is cause.StoreMisaligned = refl
cause_is cause.StoreRange = refl
cause_is cause.Breakpoint = refl
cause_is cause.Gate = refl

cause_known : (c d : Cause) → cause_number c ≡ cause_number d → c ≡ d
cause_known c d e = sym (cause_is c) ∙ ap cause_from e ∙ cause_is d

status_free : IsPrefixFree (λ s. fits_status s ≡ true) status_bytes
status_free status.Running status.Running a b fx fy e = (refl, ap (λ l. drop 7 l) e)
status_free status.Running (status.Exited d) a b fx fy e = absurd (let z = ap (λ l. get_or l 0 0) e in omega (arith, z))
status_free status.Running (status.Faulted t pc c) a b fx fy e = absurd (let z = ap (λ l. get_or l 0 0) e in omega (arith, z))
status_free (status.Exited d) status.Running a b fx fy e = absurd (let z = ap (λ l. get_or l 0 0) e in omega (arith, z))
status_free (status.Exited d) (status.Exited f) a b fx fy e =
    let w = word_free d f a b fx fy (ap (λ l. drop 3 l) e) in
    (ap (λ n. status.Exited n) w.0, w.1)
status_free (status.Exited d) (status.Faulted t pc c) a b fx fy e = absurd (let z = ap (λ l. get_or l 0 0) e in omega (arith, z))
status_free (status.Faulted t pc c) status.Running a b fx fy e = absurd (let z = ap (λ l. get_or l 0 0) e in omega (arith, z))
status_free (status.Faulted t pc c) (status.Exited d) a b fx fy e = absurd (let z = ap (λ l. get_or l 0 0) e in omega (arith, z))
status_free (status.Faulted t pc c) (status.Faulted u qc d) a b fx fy e =
    let i : t ≡ u = ap (λ l. get_or l 1 0) e in
    let n : cause_number c ≡ cause_number d = ap (λ l. get_or l 2 0) e in
    let w = word_free pc qc a b (grind (arith, nat_tests, fx)) (grind (arith, nat_tests, fy)) (ap (λ l. drop 3 l) e) in
    let same : status.Faulted t pc c ≡ status.Faulted u qc d = rw (i, w.0, cause_known c d n) refl in
    (same, w.1)

-- PARTS WITH THEIR COUNT, AND THE WHOLE

few_free : {X : Type 0} (p : X → Bool) (each : X → List ℕ) → IsPrefixFree (λ x. p x ≡ true) each → (xs ys : List X) (a b : List ℕ) → list_all p xs ≡ true → list_all p ys ≡ true
    → counted one_byte each xs ++ a ≡ counted one_byte each ys ++ b → (xs ≡ ys) × (a ≡ b)
few_free p each free xs ys a b ps qs e =
    let n = byte_free (length xs) (length ys) (flat_map each xs ++ a) (flat_map each ys ++ b) e in
    parts_free p each free xs ys a b ps qs n.0 n.1

many_free : {X : Type 0} (p : X → Bool) (each : X → List ℕ) → IsPrefixFree (λ x. p x ≡ true) each → (xs ys : List X) (a b : List ℕ) → list_all p xs ≡ true → list_all p ys ≡ true
    → length xs ≤ 256 → length ys ≤ 256 → counted two_bytes each xs ++ a ≡ counted two_bytes each ys ++ b → (xs ≡ ys) × (a ≡ b)
many_free p each free xs ys a b ps qs m k e =
    let n = number_free 2 (length xs) (length ys) (flat_map each xs ++ a) (flat_map each ys ++ b) (omega (arith, m)) (omega (arith, k)) e in
    parts_free p each free xs ys a b ps qs n.0 n.1

queue_free : (xs ys a b : List ℕ) → length xs ≤ 16384 → length ys ≤ 16384 → queue_bytes xs ++ a ≡ queue_bytes ys ++ b → (xs ≡ ys) × (a ≡ b)
queue_free xs ys a b m k e =
    let n = number_free 2 (length xs) (length ys) (xs ++ a) (ys ++ b) (omega (arith, m)) (omega (arith, k)) e in
    split_free xs ys a b n.0 n.1

pub same_tables : (s t : Tables) → s.threads ≡ t.threads → s.mutexes ≡ t.mutexes → s.barriers ≡ t.barriers → s.rwlocks ≡ t.rwlocks → s.clock ≡ t.clock → s.input ≡ t.input → s.closed ≡ t.closed → s.status ≡ t.status → s ≡ t
same_tables s t e₁ e₂ e₃ e₄ e₅ e₆ e₇ e₈ =
    let fields : record { threads = s.threads; mutexes = s.mutexes; barriers = s.barriers; rwlocks = s.rwlocks; clock = s.clock; input = s.input; closed = s.closed; status = s.status } ≡ t = rw (e₁, e₂, e₃, e₄, e₅, e₆, e₇, e₈) refl in
    fields

pub words_in : (keys : KeyTable) → fit_keys keys ≡ true → AreWords keys.destructors
words_in keys f =
    let w = both (length keys.destructors == 32) (list_all (if_there is_word) keys.destructors) f in
    (let n = w.0 in grind (arith, nat_tests, n), w.1)

-- what version 1 says of threads and keys

pub threads_without_data : (s : Tables) → is_without_keys s.threads ≡ true → list_all is_slot_without_data s.threads.threads ≡ true
threads_without_data s w = (both (not s.threads.keys.is_on) (list_all is_slot_without_data s.threads.threads) w).1

not_on : (b : Bool) → not b ≡ true → b ≡ false
not_on true e = absurd (cc)
not_on false e = refl

pub keys_off_in : (s : Tables) → is_without_keys s.threads ≡ true → s.threads.keys.is_on ≡ false
keys_off_in s w = not_on s.threads.keys.is_on (both (not s.threads.keys.is_on) (list_all is_slot_without_data s.threads.threads) w).0

keys_are_off : (s : Tables) → IsWellFormed s → is_without_keys s.threads ≡ true → s.threads.keys ≡ keys_off
keys_are_off s h w = off_keys s.threads.keys h.threads.proper_keys (keys_off_in s w)

pub distinct : (version harts : ℕ) → AreDistinct version harts
distinct version harts s t held out h k e =
    let f = h.fit in
    let g = k.fit in
    let ws = h.well_formed in
    let wt = k.well_formed in
    let s10 = queue_bytes held ++ [] in
    let t10 = queue_bytes out ++ [] in
    let s9 = queue_bytes s.input ++ s10 in
    let t9 = queue_bytes t.input ++ t10 in
    let sk = keys_bytes version s.threads.keys ++ s9 in
    let tk = keys_bytes version t.threads.keys ++ t9 in
    let s8 = counted one_byte rwlock_bytes s.rwlocks ++ sk in
    let t8 = counted one_byte rwlock_bytes t.rwlocks ++ tk in
    let s7 = counted one_byte barrier_bytes s.barriers ++ s8 in
    let t7 = counted one_byte barrier_bytes t.barriers ++ t8 in
    let s6 = counted two_bytes mutex_bytes s.mutexes ++ s7 in
    let t6 = counted two_bytes mutex_bytes t.mutexes ++ t7 in
    let s5 = counted one_byte wait_bytes s.threads.waits ++ s6 in
    let t5 = counted one_byte wait_bytes t.threads.waits ++ t6 in
    let s4 = counted one_byte (thread_bytes version) (thread_rows s.threads) ++ s5 in
    let t4 = counted one_byte (thread_bytes version) (thread_rows t.threads) ++ t5 in
    let s3 = flat_map hart_bytes s.threads.harts ++ s4 in
    let t3 = flat_map hart_bytes t.threads.harts ++ t4 in
    let s2 = status_bytes s.status ++ s3 in
    let t2 = status_bytes t.status ++ t3 in
    let r0 = long_free s.clock t.clock (flag 1 s.closed ∷ s2) (flag 1 t.closed ∷ t2) f.clock g.clock e in
    let r1 = byte_free (flag 1 s.closed) (flag 1 t.closed) s2 t2 r0.1 in
    let r2 = status_free s.status t.status s3 t3 f.status g.status r1.1 in
    let r3 = parts_free (if_there is_id) hart_bytes hart_free s.threads.harts t.threads.harts s4 t4 f.harts g.harts (ws.threads.harts ∙ sym wt.threads.harts) r2.1 in
    let r4 = few_free (fits_in version) (thread_bytes version) (thread_free version) (thread_rows s.threads) (thread_rows t.threads) s5 t5 (rows_fit version 0 s.threads.threads f.threads (λ v. threads_without_data s (h.said v))) (rows_fit version 0 t.threads.threads g.threads (λ v. threads_without_data t (k.said v))) r3.1 in
    let r5 = few_free fits_wait wait_bytes wait_free s.threads.waits t.threads.waits s6 t6 f.waits g.waits r4.1 in
    let r6 = many_free fits_mutex mutex_bytes mutex_free s.mutexes t.mutexes s7 t7 f.mutexes g.mutexes (few s ws).mutexes (few t wt).mutexes r5.1 in
    let r7 = few_free fits_barrier barrier_bytes barrier_free s.barriers t.barriers s8 t8 f.barriers g.barriers r6.1 in
    let r8 = few_free fits_rwlock rwlock_bytes rwlock_free s.rwlocks t.rwlocks sk tk f.rwlocks g.rwlocks r7.1 in
    let rk = keys_free version s.threads.keys t.threads.keys s9 t9 (words_in s.threads.keys f.keys) (words_in t.threads.keys g.keys) (λ v. (keys_are_off s ws (h.said v), keys_are_off t wt (k.said v))) r8.1 in
    let si = ws.input in
    let ti = wt.input in
    let r9 = queue_free s.input t.input s10 t10 (omega (arith, si)) (omega (arith, ti)) rk.1 in
    let r10 = queue_free held out [] [] h.is_held k.is_held r9.1 in
    let threads = known_by_rows s.threads t.threads ws.threads wt.threads (record { threads = r4.0; waits = r5.0; harts = r3.0; hart_count = h.hart_count ∙ sym k.hart_count; keys = rk.0 }) in
    (same_tables s t threads r6.0 r7.0 r8.0 r0.0 r9.0 (flag_free s.closed t.closed r1.0) r2.0, r10.0)
