-- The table of locks after a change.
use Rattle.std.proofs.Common.{◌≡◌, ℕ, eqb, Bool, true, false, if◌then◌else◌, List, replicate, Option, Some, None, is_some, refl, ap, arith}
use Rattle.std.specs.Prelude.{unwrap_or}
use Rattle.std.proofs.lemmas.Bool.Decides.{nat_tests}
use Rattle.ckrt_objects.specs.declared.address_map.Entry.{Entry}
use Rattle.ckrt_objects.specs.AddressMap.{lookup, has_entry, has_room, removed, stored}
use Rattle.ckrt_objects.proofs.AddressMap.{lookup_all, lookup_removed, lookup_stored, rising_removed, rising_stored, all_removed, all_stored, no_lookup}
use Rattle.ckrt_objects.proofs.Waits.{either}
use Rattle.ckrt_rwlock.specs.declared.records.RwLock.{RwLock}
use Rattle.ckrt_rwlock.specs.RwLock.{unheld, is_held, is_proper, is_exclusive, lock_at, put, IsTable}
use Rattle.ckrt_rwlock.proofs.Counts.{none_set, proper_size}

pub proper_at : (a : ℕ) (ls : List (Entry RwLock)) → IsTable ls → is_proper (lock_at a ls) ≡ true
proper_at a ls t = lookup_all is_proper a ls unheld t.proper refl

pub exclusive_at : (a : ℕ) (ls : List (Entry RwLock)) → IsTable ls → is_exclusive (lock_at a ls) ≡ true
exclusive_at a ls t = lookup_all is_exclusive a ls unheld t.no_reader_beside_a_writer refl

unheld_from : (o : Option ℕ) (ns : List ℕ) → is_some o ≡ false → ns ≡ replicate 65 0 → unheld ≡ record { writer = o; readers = ns }
unheld_from None ns w r = rw r refl
unheld_from (Some t) ns w r = absurd (cc)

-- a lock that nobody holds is the one that no entry says
unheld_is : (l : RwLock) → is_held l ≡ false → is_proper l ≡ true → unheld ≡ l
unheld_is l h p =
    unheld_from l.writer l.readers (grind (arith, nat_tests))
    (none_set l.readers 65 (proper_size l.readers (grind (arith, nat_tests))) (grind (arith, nat_tests)))

removed_to : (b : Bool) (o : Option RwLock) (l : RwLock) → unheld ≡ l → unwrap_or (if b then None else o) unheld ≡ (if b then l else unwrap_or o unheld)
removed_to true o l e = e
removed_to false o l e = refl

stored_to : (b : Bool) (o : Option RwLock) (l : RwLock) → unwrap_or (if b then Some l else o) unheld ≡ (if b then l else unwrap_or o unheld)
stored_to true o l = refl
stored_to false o l = refl

removed_at : (a b : ℕ) (l : RwLock) (ls : List (Entry RwLock)) → is_held l ≡ false → IsTable ls → is_proper l ≡ true → unwrap_or (lookup b (removed a ls)) unheld ≡ (if eqb a b then l else lock_at b ls)
removed_at a b l ls h t p = rw (lookup_removed a b ls t.rising) (removed_to (eqb a b) (lookup b ls) l (unheld_is l h p))

stored_at : (a b : ℕ) (l : RwLock) (ls : List (Entry RwLock)) → unwrap_or (lookup b (stored a l ls)) unheld ≡ (if eqb a b then l else lock_at b ls)
stored_at a b l ls = rw (lookup_stored a b l ls) (stored_to (eqb a b) (lookup b ls) l)

-- each lock after one has become another
pub lock_put : (a b : ℕ) (l : RwLock) (ls : List (Entry RwLock)) → IsTable ls → is_proper l ≡ true → lock_at b (put a l ls) ≡ (if eqb a b then l else lock_at b ls)
lock_put a b l ls t p =
    either (λ ns. unwrap_or (lookup b ns) unheld ≡ (if eqb a b then l else lock_at b ls)) (is_held l) (stored a l ls) (removed a ls)
    (λ _. stored_at a b l ls) (λ h. removed_at a b l ls h t p)

pub table_removed : (a : ℕ) (ls : List (Entry RwLock)) → IsTable ls → IsTable (removed a ls)
table_removed a ls t = record {
  rising = rising_removed a ls t.rising;
  canonical = all_removed (λ e. is_held e.value) a ls t.canonical;
  proper = all_removed (λ e. is_proper e.value) a ls t.proper;
  no_reader_beside_a_writer = all_removed (λ e. is_exclusive e.value) a ls t.no_reader_beside_a_writer;
}

pub table_stored : (a : ℕ) (l : RwLock) (ls : List (Entry RwLock)) → is_held l ≡ true → is_proper l ≡ true → is_exclusive l ≡ true → IsTable ls → IsTable (stored a l ls)
table_stored a l ls h p x t = record {
  rising = rising_stored a l ls t.rising;
  canonical = all_stored (λ e. is_held e.value) a l ls h t.canonical;
  proper = all_stored (λ e. is_proper e.value) a l ls p t.proper;
  no_reader_beside_a_writer = all_stored (λ e. is_exclusive e.value) a l ls x t.no_reader_beside_a_writer;
}

pub table_put : (a : ℕ) (l : RwLock) (ls : List (Entry RwLock)) → is_proper l ≡ true → is_exclusive l ≡ true → IsTable ls → IsTable (put a l ls)
table_put a l ls p x t = either IsTable (is_held l) (stored a l ls) (removed a ls) (λ h. table_stored a l ls h p x t) (λ _. table_removed a ls t)

no_entry_unheld : (a : ℕ) (ls : List (Entry RwLock)) → has_entry a ls ≡ false → is_held (lock_at a ls) ≡ false
no_entry_unheld a ls h = ap (λ o. is_held (unwrap_or o unheld)) (no_lookup a ls h)

pub held_entry : (a : ℕ) (ls : List (Entry RwLock)) → is_held (lock_at a ls) ≡ true → has_entry a ls ≡ true
held_entry a ls h = grind (arith, nat_tests, no_entry_unheld a ls)

-- a lock that is held has an entry, and so there is room for what it becomes
pub room_of_held : (a : ℕ) (l : RwLock) (ls : List (Entry RwLock)) → l ≡ lock_at a ls → is_held l ≡ true → has_room 64 a ls ≡ true
room_of_held a l ls e h =
    let held : is_held (lock_at a ls) ≡ true = rw (← e) h in
    grind (arith, nat_tests, held_entry a ls held)
