-- The table of mutexes after a change.
use Rattle.std.proofs.Common.{◌≡◌, ℕ, zero, suc, ◌+◌, ◌-◌, ◌≤◌, ◌<◌, eqb, Bool, true, false, if◌then◌else◌, not, ◌&&◌, ◌||◌, List, Option, Some, None, is_none, is_some, refl, ap, arith}
use Rattle.std.specs.Prelude.{unwrap_or}
use Rattle.std.proofs.lemmas.Bool.Decides.{nat_tests}
use Rattle.ckrt_objects.specs.declared.address_map.Entry.{Entry}
use Rattle.ckrt_objects.proofs.Waits.{either}
use Rattle.ckrt_mutex.specs.declared.records.Kind.{Kind}
use Rattle.ckrt_mutex.specs.declared.records.Kind.TheVariants.{Normal, Recursive, ErrorCheck}
use Rattle.ckrt_mutex.specs.declared.records.Mutex.{Mutex}
use Rattle.ckrt_objects.specs.AddressMap.{lookup, has_entry, has_room, removed, stored}
use Rattle.ckrt_mutex.specs.Mutex.{free, owned, is_owned, is_owner, is_thread, is_available, is_normal, is_recursive, is_plain, is_proper, is_proper_count, mutex_at, put, IsTable}
use Rattle.ckrt_objects.proofs.AddressMap.{lookup_all, lookup_removed, lookup_stored, rising_removed, rising_stored, all_removed, all_stored, no_lookup}

pub proper_at : (a : ℕ) (ms : List (Entry Mutex)) → IsTable ms → is_proper (mutex_at a ms) ≡ true
proper_at a ms t = lookup_all is_proper a ms (free Normal) t.proper refl

pub plain_is : (k : Kind) (n : ℕ) (o : Option ℕ) → (is_normal k && is_none o) ≡ true → is_proper_count k n o ≡ true → free Normal ≡ record { kind = k; owner = o; count = n }
plain_is Normal zero None p c = refl
plain_is Normal (suc n) None p c = absurd (grind (arith, nat_tests))
plain_is Normal n (Some t) p c = absurd (cc)
plain_is Recursive n o p c = absurd (cc)
plain_is ErrorCheck n o p c = absurd (cc)

removed_to : (b : Bool) (o : Option Mutex) (m : Mutex) → free Normal ≡ m → unwrap_or (if b then None else o) (free Normal) ≡ (if b then m else unwrap_or o (free Normal))
removed_to true o m e = e
removed_to false o m e = refl

stored_to : (b : Bool) (o : Option Mutex) (m : Mutex) → unwrap_or (if b then Some m else o) (free Normal) ≡ (if b then m else unwrap_or o (free Normal))
stored_to true o m = refl
stored_to false o m = refl

removed_at : (a b : ℕ) (m : Mutex) (ms : List (Entry Mutex)) → is_plain m ≡ true → IsTable ms → is_proper m ≡ true → unwrap_or (lookup b (removed a ms)) (free Normal) ≡ (if eqb a b then m else mutex_at b ms)
removed_at a b m ms p t c = rw (lookup_removed a b ms t.rising) (removed_to (eqb a b) (lookup b ms) m (plain_is m.kind m.count m.owner p c))

stored_at : (a b : ℕ) (m : Mutex) (ms : List (Entry Mutex)) → unwrap_or (lookup b (stored a m ms)) (free Normal) ≡ (if eqb a b then m else mutex_at b ms)
stored_at a b m ms = rw (lookup_stored a b m ms) (stored_to (eqb a b) (lookup b ms) m)

-- each mutex after one has become another
pub mutex_put : (a b : ℕ) (m : Mutex) (ms : List (Entry Mutex)) → IsTable ms → is_proper m ≡ true → mutex_at b (put a m ms) ≡ (if eqb a b then m else mutex_at b ms)
mutex_put a b m ms t c =
    either (λ ns. unwrap_or (lookup b ns) (free Normal) ≡ (if eqb a b then m else mutex_at b ms)) (is_plain m) (removed a ms) (stored a m ms)
    (λ p. removed_at a b m ms p t c) (λ _. stored_at a b m ms)

pub table_removed : (a : ℕ) (ms : List (Entry Mutex)) → IsTable ms → IsTable (removed a ms)
table_removed a ms t = record {
  rising = rising_removed a ms t.rising;
  canonical = all_removed (λ e. not (is_plain e.value)) a ms t.canonical;
  proper = all_removed (λ e. is_proper e.value) a ms t.proper;
}

pub table_stored : (a : ℕ) (m : Mutex) (ms : List (Entry Mutex)) → is_plain m ≡ false → is_proper m ≡ true → IsTable ms → IsTable (stored a m ms)
table_stored a m ms p c t = record {
  rising = rising_stored a m ms t.rising;
  canonical = all_stored (λ e. not (is_plain e.value)) a m ms (ap not p) t.canonical;
  proper = all_stored (λ e. is_proper e.value) a m ms c t.proper;
}

pub table_put : (a : ℕ) (m : Mutex) (ms : List (Entry Mutex)) → is_proper m ≡ true → IsTable ms → IsTable (put a m ms)
table_put a m ms c t = either IsTable (is_plain m) (removed a ms) (stored a m ms) (λ p. table_removed a ms t) (λ p. table_stored a m ms p c t)

proper_more : (k : Kind) (n t : ℕ) (o : Option ℕ) → is_proper_count k n o ≡ true → (is_none o || (is_thread t o && is_recursive k)) ≡ true → 0 < t → t ≤ 64 → n < 65535 → is_proper_count k (n + 1) (Some t) ≡ true
proper_more Normal n t None p a l u b = grind (arith, nat_tests)
proper_more Recursive n t None p a l u b = grind (arith, nat_tests)
proper_more ErrorCheck n t None p a l u b = grind (arith, nat_tests)
proper_more Normal n t (Some u) p a l h b = absurd (grind (arith, nat_tests))
proper_more Recursive n t (Some u) p a l h b = grind (arith, nat_tests)
proper_more ErrorCheck n t (Some u) p a l h b = absurd (grind (arith, nat_tests))

-- a mutex that is available can be locked once more
pub proper_locked : (m : Mutex) (t : ℕ) → is_proper m ≡ true → is_available t m ≡ true → 0 < t → t ≤ 64 → m.count < 65535 → is_proper (owned m.kind t (m.count + 1)) ≡ true
proper_locked m t p a l u b = proper_more m.kind m.count t m.owner p a l u b

proper_less : (k : Kind) (n t : ℕ) (o : Option ℕ) → is_proper_count k n o ≡ true → is_thread t o ≡ true → 1 < n → is_proper_count k (n - 1) (Some t) ≡ true
proper_less k n t None p a b = absurd (cc)
proper_less k n t (Some u) p a b = grind (arith, nat_tests)

-- one that its owner has locked more than once can be unlocked once
pub proper_unlocked : (m : Mutex) (t : ℕ) → is_proper m ≡ true → is_owner t m ≡ true → 1 < m.count → is_proper (owned m.kind t (m.count - 1)) ≡ true
proper_unlocked m t p a b = proper_less m.kind m.count t m.owner p a b

pub proper_once : (k : Kind) (t : ℕ) → 0 < t → t ≤ 64 → is_proper (owned k t 1) ≡ true
proper_once Normal t l u = grind (arith, nat_tests)
proper_once Recursive t l u = grind (arith, nat_tests)
proper_once ErrorCheck t l u = grind (arith, nat_tests)

pub owned_by_some : (t : ℕ) (o : Option ℕ) → is_thread t o ≡ true → is_some o ≡ true
owned_by_some t None h = absurd (cc)
owned_by_some t (Some u) h = refl

no_entry_free : (a : ℕ) (ms : List (Entry Mutex)) → has_entry a ms ≡ false → is_owned (mutex_at a ms) ≡ false
no_entry_free a ms h = ap (λ o. is_owned (unwrap_or o (free Normal))) (no_lookup a ms h)

pub owned_entry : (a : ℕ) (ms : List (Entry Mutex)) → is_owned (mutex_at a ms) ≡ true → has_entry a ms ≡ true
owned_entry a ms o = grind (arith, nat_tests, no_entry_free a ms)

no_entry_plain : (a : ℕ) (ms : List (Entry Mutex)) → has_entry a ms ≡ false → is_plain (mutex_at a ms) ≡ true
no_entry_plain a ms h = ap (λ o. is_plain (unwrap_or o (free Normal))) (no_lookup a ms h)

pub other_entry : (a : ℕ) (ms : List (Entry Mutex)) → is_plain (mutex_at a ms) ≡ false → has_entry a ms ≡ true
other_entry a ms p = grind (arith, nat_tests, no_entry_plain a ms)

-- an owned mutex has an entry, and so there is room for what it becomes
pub room_of_owned : (a t : ℕ) (m : Mutex) (ms : List (Entry Mutex)) → m ≡ mutex_at a ms → is_owner t m ≡ true → has_room 256 a ms ≡ true
room_of_owned a t m ms e o =
    let has : is_owned (mutex_at a ms) ≡ true = rw (← e) (owned_by_some t m.owner o) in
    grind (arith, nat_tests, owned_entry a ms has)
