-- Entries of free normal mutexes say nothing: what is kept of a map without them.
use Rattle.std.proofs.Common.{◌≡◌, ℕ, ◌≤◌, ◌<◌, nat_lt, Bool, true, false, cond, not, List, [], ◌∷◌, Some, refl, sym, ap, ◌∙◌, arith}
use Rattle.std.specs.Prelude.{unwrap_or}
use Rattle.std.proofs.lemmas.Bool.Decides.{nat_tests}
use Rattle.ckrt_thread.specs.State.{State}
use Rattle.ckrt_objects.specs.declared.address_map.Entry.{Entry}
use Rattle.ckrt_mutex.specs.declared.records.Kind.TheVariants.{Normal}
use Rattle.ckrt_mutex.specs.declared.records.Mutex.{Mutex}
use Rattle.ckrt_objects.specs.AddressMap.{is_at, lookup, removed, stored, are_above, is_rising, has_room}
use Rattle.ckrt_mutex.specs.Mutex.{free, is_plain, is_proper, mutex_at, put, is_kept, kept, AreEntries, IsTable}
use Rattle.ckrt_mutex.specs.Rows.{named, used_count, is_full}
use Rattle.ckrt_objects.proofs.AddressMap.{above_no_entry, above_weaker, no_lookup, not_removed, rising_removed, rising_stored, all_removed, all_stored}
use Rattle.ckrt_objects.proofs.Parts.{above_part, rising_part, all_part, part_all, part_twice, no_entry_part, removed_part, count_part}
use Rattle.ckrt_mutex.proofs.Table.{plain_is, other_entry}

-- WHAT IS KEPT

pub kept_twice : (es : List (Entry Mutex)) → kept (kept es) ≡ kept es
kept_twice es = part_twice is_kept es

pub entries_kept : (es : List (Entry Mutex)) → AreEntries es → AreEntries (kept es)
entries_kept es h = record { rising = rising_part is_kept es h.rising; proper = all_part is_kept (λ e. is_proper e.value) es h.proper }

pub table_kept : (es : List (Entry Mutex)) → AreEntries es → IsTable (kept es)
table_kept es h = record { rising = rising_part is_kept es h.rising; canonical = part_all is_kept es; proper = all_part is_kept (λ e. is_proper e.value) es h.proper }

-- a mutex at an address where an entry of a free normal one was left out
left_out : (e : Entry Mutex) (es : List (Entry Mutex)) → is_plain e.value ≡ true → is_proper e.value ≡ true → are_above e.address es ≡ true → unwrap_or (lookup e.address (kept es)) (free Normal) ≡ e.value
left_out e es p c h =
    ap (λ o. unwrap_or o (free Normal)) (no_lookup e.address (kept es) (no_entry_part is_kept e.address e.address es (omega arith) h))
    ∙ plain_is e.value.kind e.value.count e.value.owner p c

at_first : (a : ℕ) (e : Entry Mutex) (es : List (Entry Mutex)) (b : Bool) → is_at a e ≡ b → is_proper e.value ≡ true → are_above e.address es ≡ true → mutex_at a (kept es) ≡ mutex_at a es → mutex_at a (kept (e ∷ es)) ≡ mutex_at a (e ∷ es)
at_first a e es true at c h i =
    let same : a ≡ e.address = grind (arith, nat_tests, at) in
    let there : mutex_at a (e ∷ es) ≡ e.value = ap (λ b. unwrap_or (cond b (Some e.value) (lookup a es)) (free Normal)) at in
    elim (is_plain e.value) as (λ b. is_plain e.value ≡ b → mutex_at a (kept (e ∷ es)) ≡ mutex_at a (e ∷ es)) [
      | true ↦ λ p.
          ap (λ b. mutex_at a (cond (not b) (e ∷ kept es) (kept es))) p ∙ (ap (λ n. mutex_at n (kept es)) same ∙ (left_out e es p c h ∙ sym there))
      | false ↦ λ p.
          ap (λ b. mutex_at a (cond (not b) (e ∷ kept es) (kept es))) p ∙ (ap (λ b. unwrap_or (cond b (Some e.value) (lookup a (kept es))) (free Normal)) at ∙ sym there)
    ] refl
at_first a e es false at c h i =
    let there : mutex_at a (e ∷ es) ≡ mutex_at a es = ap (λ b. unwrap_or (cond b (Some e.value) (lookup a es)) (free Normal)) at in
    elim (is_plain e.value) as (λ b. is_plain e.value ≡ b → mutex_at a (kept (e ∷ es)) ≡ mutex_at a (e ∷ es)) [
      | true ↦ λ p. ap (λ b. mutex_at a (cond (not b) (e ∷ kept es) (kept es))) p ∙ (i ∙ sym there)
      | false ↦ λ p.
          ap (λ b. mutex_at a (cond (not b) (e ∷ kept es) (kept es))) p
          ∙ (ap (λ b. unwrap_or (cond b (Some e.value) (lookup a (kept es))) (free Normal)) at ∙ (i ∙ sym there))
    ] refl

pub mutex_kept : (a : ℕ) (es : List (Entry Mutex)) → AreEntries es → mutex_at a (kept es) ≡ mutex_at a es
mutex_kept a [] h = refl
mutex_kept a (e ∷ es) h =
    let r = h.rising in
    let c = h.proper in
    at_first a e es (is_at a e) refl (grind (arith, nat_tests)) (grind (arith, nat_tests))
    (mutex_kept a es (record { rising = grind (arith, nat_tests); proper = grind (arith, nat_tests) }))

-- WHAT A CHANGE LEAVES

-- a mutex put in front of a map of higher addresses
stored_above : (a : ℕ) (m : Mutex) (es : List (Entry Mutex)) → are_above a es ≡ true → stored a m es ≡ (record { address = a; value = m }) ∷ es
stored_above a m [] h = refl
stored_above a m (e ∷ es) h = grind (arith, nat_tests)

put_above : (a : ℕ) (m : Mutex) (es : List (Entry Mutex)) → are_above a es ≡ true → put a m es ≡ cond (is_plain m) es ((record { address = a; value = m }) ∷ es)
put_above a m es h =
    elim (is_plain m) as (λ b. cond b (removed a es) (stored a m es) ≡ cond b es ((record { address = a; value = m }) ∷ es)) [
      | true ↦ not_removed a es (above_no_entry a a es (omega arith) h)
      | false ↦ stored_above a m es h
    ]

put_lower : (a : ℕ) (m : Mutex) (e : Entry Mutex) (es : List (Entry Mutex)) → nat_lt e.address a ≡ true → put a m (e ∷ es) ≡ e ∷ put a m es
put_lower a m e es l =
    elim (is_plain m) as (λ b. cond b (removed a (e ∷ es)) (stored a m (e ∷ es)) ≡ e ∷ cond b (removed a es) (stored a m es)) [
      | true ↦ grind (arith, nat_tests)
      | false ↦ grind (arith, nat_tests)
    ]

not_cond : {X : Type 0} (b : Bool) (x y : X) → cond (not b) x y ≡ cond b y x
not_cond true x y = refl
not_cond false x y = refl

put_same : (a : ℕ) (m : Mutex) (e : Entry Mutex) (es : List (Entry Mutex)) → is_at a e ≡ true → put a m (e ∷ es) ≡ cond (is_plain m) es ((record { address = a; value = m }) ∷ es)
put_same a m e es t =
    elim (is_plain m) as (λ b. cond b (removed a (e ∷ es)) (stored a m (e ∷ es)) ≡ cond b es ((record { address = a; value = m }) ∷ es)) [
      | true ↦ grind (arith, nat_tests)
      | false ↦ grind (arith, nat_tests)
    ]

-- the entry before the place of the address
stored_lower : (a : ℕ) (m : Mutex) (e : Entry Mutex) (es : List (Entry Mutex)) → nat_lt e.address a ≡ true → kept (stored a m es) ≡ put a m (kept es) → kept (stored a m (e ∷ es)) ≡ put a m (kept (e ∷ es))
stored_lower a m e es l i =
    ap (λ b. kept (cond b (e ∷ stored a m es) ((record { address = a; value = m }) ∷ cond (is_at a e) es (e ∷ es)))) l
    ∙ (ap (λ ns. cond (is_kept e) (e ∷ ns) ns) i
    ∙ elim (is_kept e) as (λ b. cond b (e ∷ put a m (kept es)) (put a m (kept es)) ≡ put a m (cond b (e ∷ kept es) (kept es))) [
      | true ↦ sym (put_lower a m e (kept es) l)
      | false ↦ refl
    ])

-- the entry of the address itself
stored_same : (a : ℕ) (m : Mutex) (e : Entry Mutex) (es : List (Entry Mutex)) → nat_lt e.address a ≡ false → is_at a e ≡ true → are_above a (kept es) ≡ true → kept (stored a m (e ∷ es)) ≡ put a m (kept (e ∷ es))
stored_same a m e es l t h =
    ap (λ b. kept (cond b (e ∷ stored a m es) ((record { address = a; value = m }) ∷ cond (is_at a e) es (e ∷ es)))) l
    ∙ (ap (λ b. kept ((record { address = a; value = m }) ∷ cond b es (e ∷ es))) t
    ∙ (not_cond (is_plain m) ((record { address = a; value = m }) ∷ kept es) (kept es)
    ∙ elim (is_kept e) as (λ b. cond (is_plain m) (kept es) ((record { address = a; value = m }) ∷ kept es) ≡ put a m (cond b (e ∷ kept es) (kept es))) [
      | true ↦ sym (put_same a m e (kept es) t)
      | false ↦ sym (put_above a m (kept es) h)
    ]))

-- the entry behind the place of the address
stored_higher : (a : ℕ) (m : Mutex) (e : Entry Mutex) (es : List (Entry Mutex)) → nat_lt e.address a ≡ false → is_at a e ≡ false → are_above a (kept (e ∷ es)) ≡ true → kept (stored a m (e ∷ es)) ≡ put a m (kept (e ∷ es))
stored_higher a m e es l t h =
    ap (λ b. kept (cond b (e ∷ stored a m es) ((record { address = a; value = m }) ∷ cond (is_at a e) es (e ∷ es)))) l
    ∙ (ap (λ b. kept ((record { address = a; value = m }) ∷ cond b es (e ∷ es))) t
    ∙ (not_cond (is_plain m) ((record { address = a; value = m }) ∷ kept (e ∷ es)) (kept (e ∷ es))
    ∙ sym (put_above a m (kept (e ∷ es)) h)))

stored_first : (a : ℕ) (m : Mutex) (e : Entry Mutex) (es : List (Entry Mutex)) (l t : Bool) → nat_lt e.address a ≡ l → is_at a e ≡ t → are_above e.address es ≡ true → kept (stored a m es) ≡ put a m (kept es) → kept (stored a m (e ∷ es)) ≡ put a m (kept (e ∷ es))
stored_first a m e es true t x y h i = stored_lower a m e es x i
stored_first a m e es false true x y h i =
    stored_same a m e es x y (above_part is_kept a es (above_weaker e.address a es (grind (arith, nat_tests, y)) h))
stored_first a m e es false false x y h i =
    let lower : a < e.address = grind (arith, nat_tests, x, y) in
    stored_higher a m e es x y (above_part is_kept a (e ∷ es) (grind (arith, nat_tests, above_weaker e.address a es (omega arith) h)))

-- what is kept of a map with a mutex put at an address
pub stored_kept : (a : ℕ) (m : Mutex) (es : List (Entry Mutex)) → is_rising es ≡ true → kept (stored a m es) ≡ put a m (kept es)
stored_kept a m [] h =
    let one : List (Entry Mutex) = (record { address = a; value = m }) ∷ [] in
    elim (is_plain m) as (λ b. cond (not b) one [] ≡ cond b [] one) [
      | true ↦ refl
      | false ↦ refl
    ]
stored_kept a m (e ∷ es) h =
    stored_first a m e es (nat_lt e.address a) (is_at a e) refl refl (grind (arith, nat_tests)) (stored_kept a m es (grind (arith, nat_tests)))

pub removed_kept : (a : ℕ) (es : List (Entry Mutex)) → is_rising es ≡ true → kept (removed a es) ≡ removed a (kept es)
removed_kept a es h = removed_part is_kept a es h

pub entries_stored : (a : ℕ) (m : Mutex) (es : List (Entry Mutex)) → is_proper m ≡ true → AreEntries es → AreEntries (stored a m es)
entries_stored a m es c h = record { rising = rising_stored a m es h.rising; proper = all_stored (λ e. is_proper e.value) a m es c h.proper }

pub entries_removed : (a : ℕ) (es : List (Entry Mutex)) → AreEntries es → AreEntries (removed a es)
entries_removed a es h = record { rising = rising_removed a es h.rising; proper = all_removed (λ e. is_proper e.value) a es h.proper }

-- HOW MANY ARE IN USE

pub count_kept : (s : State) (es : List (Entry Mutex)) → used_count s (kept es) ≤ used_count s es
count_kept s es = count_part is_kept named s.waits es

pub not_full_kept : (a : ℕ) (s : State) (es : List (Entry Mutex)) → used_count s es < 256 → is_full a s (kept es) ≡ false
not_full_kept a s es h = grind (arith, nat_tests, count_kept s es, h)

-- an entry of the address itself is room for it
pub room_for_entry : (n a : ℕ) (es : List (Entry Mutex)) → is_plain (mutex_at a es) ≡ false → has_room n a es ≡ true
room_for_entry n a es p = grind (arith, nat_tests, other_entry a es)
