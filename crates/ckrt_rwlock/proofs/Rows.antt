-- Each row keeps threads and locks well-formed together.
use Rattle.std.proofs.Common.{◌≡◌, ℕ, ◌+◌, ◌≤◌, ◌<◌, nat_lt, nat_le, Bool, true, false, ◌||◌, not, List, Option, Some, None, refl, arith}
use Rattle.std.proofs.lemmas.Bool.Decides.{nat_tests}
use Rattle.ckrt_thread.specs.declared.records.Wait.{Wait}
use Rattle.ckrt_thread.specs.declared.records.Reason.{Reason}
use Rattle.ckrt_thread.specs.declared.records.Reason.TheVariants as reason
use Rattle.ckrt_thread.specs.declared.records.Object.TheVariants as object
use Rattle.ckrt_thread.specs.State.{State, first_waiter, is_waiting, IsWellFormed}
use Rattle.ckrt_thread.specs.Granting.{is_first_admissible}
use Rattle.ckrt_objects.specs.declared.address_map.Entry.{Entry}
use Rattle.ckrt_objects.proofs.Waits.{either}
use Rattle.ckrt_rwlock.specs.declared.records.RwLock.{RwLock}
use Rattle.ckrt_rwlock.specs.RwLock.{read_count, is_writer, is_reader, is_holder, is_written, is_held, with_writer, with_read_count, given_up, lock_at}
use Rattle.ckrt_rwlock.specs.Rows.{After, is_full, is_awaited, rwlock_rule, is_admissible_for, is_0_or_again, or_busy, reading, reading_again, rdlock_row, tryrdlock_row, wrlock_row, trywrlock_row, unlock_row}
use Rattle.ckrt_rwlock.specs.WellFormed.{IsWellFormedWith}
use Rattle.ckrt_rwlock.proofs.Table.{proper_at, exclusive_at}
use Rattle.ckrt_rwlock.proofs.Holders.{holder_holds, exclusive_unwritten, proper_reads, other_reads, reads, reader_unwritten, proper_written, exclusive_written, other_writes, proper_given_up, exclusive_given_up, other_given_up}
use Rattle.ckrt_rwlock.proofs.WellFormed.{held_not_full, well_formed_taken, well_formed_blocked, well_formed_released, waiter_is_another}

abbrev IsKept : After → Type 0
IsKept r = IsWellFormedWith r.threads r.locks

neither : (b c : Bool) → b ≡ false → c ≡ false → (b || c) ≡ false
neither true c h k = absurd (cc)
neither false c h k = k

-- RDLOCK AND TRYRDLOCK

-- who is not admissible is not where one more reads
still_waits_to_read : (r : Reason) (l : RwLock) (t n : ℕ) → is_admissible_for r l ≡ false → is_held (with_read_count t n l) ≡ true → is_admissible_for r (with_read_count t n l) ≡ false
still_waits_to_read reason.Input l t n h k = refl
still_waits_to_read reason.Sleep l t n h k = refl
still_waits_to_read (reason.Join i) l t n h k = refl
still_waits_to_read (reason.Lock b) l t n h k = refl
still_waits_to_read (reason.Retake b v) l t n h k = refl
still_waits_to_read (reason.Condition c b) l t n h k = refl
still_waits_to_read (reason.Barrier b) l t n h k = refl
still_waits_to_read (reason.Read b) l t n h k = h
still_waits_to_read (reason.Write b) l t n h k = grind (arith, nat_tests)

first_still : (a : ℕ) (f : Option Wait) (l : RwLock) (t n : ℕ) → is_first_admissible (rwlock_rule a) f l ≡ false → is_held (with_read_count t n l) ≡ true → is_first_admissible (rwlock_rule a) f (with_read_count t n l) ≡ false
first_still a None l t n h k = refl
first_still a (Some w) l t n h k = still_waits_to_read w.reason l t n h k

well_formed_reading : (t a : ℕ) (s : State) (ls : List (Entry RwLock)) → IsWellFormedWith s ls → (0 < t) × (t ≤ 64) → is_waiting s t ≡ false → is_full a s ls ≡ false
    → is_written (lock_at a ls) ≡ false → read_count t (lock_at a ls) < 65535 → IsKept (reading (lock_at a ls) t a s ls)
well_formed_reading t a s ls h id w f u c =
    let l = lock_at a ls in
    let n = read_count t l + 1 in
    let p = proper_at a ls h.table in
    well_formed_taken a (with_read_count t n l) s ls h (proper_reads l t n p id.0 (omega (arith, c))) (exclusive_unwritten (with_read_count t n l) u) f
    (λ q y. other_reads l t q n (waiter_is_another a t q s w y) (h.no_waiter_holds a q y))
    (first_still a (first_waiter (object.RwLock a) s) l t n (h.no_first_waiter_is_admissible a) (reads l t n p id.1 (omega arith)))

below : (n : ℕ) → nat_le 65535 n ≡ false → n < 65535
below n h = grind (arith, nat_tests)

no_count : (n : ℕ) → nat_lt 0 n ≡ false → n < 65535
no_count n h = grind (arith, nat_tests)

well_formed_reading_again : (t a : ℕ) (s : State) (ls : List (Entry RwLock)) → IsWellFormedWith s ls → (0 < t) × (t ≤ 64) → is_waiting s t ≡ false
    → is_writer t (lock_at a ls) ≡ false → is_reader t (lock_at a ls) ≡ true → IsKept (reading_again (lock_at a ls) t a s ls)
well_formed_reading_again t a s ls h id w nw r =
    let l = lock_at a ls in
    let holds : is_holder t l ≡ true = grind (arith, nat_tests) in
    either IsKept (nat_le 65535 (read_count t l)) _ _ (λ _. h)
    (λ c. well_formed_reading t a s ls h id w (held_not_full a s ls (holder_holds t l holds)) (reader_unwritten l t (exclusive_at a ls h.table) holds nw) (below (read_count t l) c))

pub well_formed_rdlock : (t a : ℕ) (s : State) (ls : List (Entry RwLock)) → IsWellFormedWith s ls → (0 < t) × (t ≤ 64) → is_waiting s t ≡ false → IsKept (rdlock_row t a s ls)
well_formed_rdlock t a s ls h id w =
    let l = lock_at a ls in
    either IsKept (is_writer t l) _ _ (λ _. h) (λ nw.
    either IsKept (is_reader t l) _ _ (λ r. well_formed_reading_again t a s ls h id w nw r) (λ nr.
    either IsKept (is_full a s ls) _ _ (λ _. h) (λ f.
    either IsKept (is_written l || is_awaited a s) _ _
    (λ b. well_formed_blocked a t (reason.Read a) s ls h (λ q. refl) refl f (neither (is_writer t l) (is_reader t l) nw nr) (λ n. grind (arith, nat_tests)))
    (λ b. well_formed_reading t a s ls h id w f (grind (arith, nat_tests)) (no_count (read_count t l) nr)))))

well_formed_or_busy : (r : After) (s : State) (ls : List (Entry RwLock)) → IsWellFormedWith s ls → IsKept r → IsKept (or_busy r s ls)
well_formed_or_busy r s ls h k = either IsKept (is_0_or_again r.result) _ _ (λ _. k) (λ _. h)

pub well_formed_tryrdlock : (t a : ℕ) (s : State) (ls : List (Entry RwLock)) → IsWellFormedWith s ls → (0 < t) × (t ≤ 64) → is_waiting s t ≡ false → IsKept (tryrdlock_row t a s ls)
well_formed_tryrdlock t a s ls h id w = well_formed_or_busy (rdlock_row t a s ls) s ls h (well_formed_rdlock t a s ls h id w)

-- WRLOCK AND TRYWRLOCK

nobody_beside_a_writer : (r : Reason) (l : RwLock) (t : ℕ) → is_admissible_for r (with_writer (Some t) l) ≡ false
nobody_beside_a_writer reason.Input l t = refl
nobody_beside_a_writer reason.Sleep l t = refl
nobody_beside_a_writer (reason.Join i) l t = refl
nobody_beside_a_writer (reason.Lock b) l t = refl
nobody_beside_a_writer (reason.Retake b v) l t = refl
nobody_beside_a_writer (reason.Condition c b) l t = refl
nobody_beside_a_writer (reason.Barrier b) l t = refl
nobody_beside_a_writer (reason.Read b) l t = refl
nobody_beside_a_writer (reason.Write b) l t = refl

first_beside_a_writer : (a : ℕ) (f : Option Wait) (l : RwLock) (t : ℕ) → is_first_admissible (rwlock_rule a) f (with_writer (Some t) l) ≡ false
first_beside_a_writer a None l t = refl
first_beside_a_writer a (Some w) l t = nobody_beside_a_writer w.reason l t

pub well_formed_wrlock : (t a : ℕ) (s : State) (ls : List (Entry RwLock)) → IsWellFormedWith s ls → (0 < t) × (t ≤ 64) → is_waiting s t ≡ false → IsKept (wrlock_row t a s ls)
well_formed_wrlock t a s ls h id w =
    let l = lock_at a ls in
    either IsKept (is_holder t l) _ _ (λ _. h) (λ n.
    either IsKept (is_full a s ls) _ _ (λ _. h) (λ f.
    either IsKept (is_held l) _ _
    (λ b. well_formed_blocked a t (reason.Write a) s ls h (λ q. refl) refl f n (λ _. grind (arith, nat_tests)))
    (λ b. well_formed_taken a (with_writer (Some t) l) s ls h (proper_written l t (proper_at a ls h.table) id.0 id.1) (exclusive_written l t b) f
    (λ q y. other_writes l t q (waiter_is_another a t q s w y) (h.no_waiter_holds a q y))
    (first_beside_a_writer a (first_waiter (object.RwLock a) s) l t))))

pub well_formed_trywrlock : (t a : ℕ) (s : State) (ls : List (Entry RwLock)) → IsWellFormedWith s ls → (0 < t) × (t ≤ 64) → is_waiting s t ≡ false → IsKept (trywrlock_row t a s ls)
well_formed_trywrlock t a s ls h id w = well_formed_or_busy (wrlock_row t a s ls) s ls h (well_formed_wrlock t a s ls h id w)

-- UNLOCK

not_not : (b : Bool) → not b ≡ false → b ≡ true
not_not true h = refl
not_not false h = absurd (cc)

pub well_formed_unlock : (t a : ℕ) (s : State) (ls : List (Entry RwLock)) → IsWellFormed s → IsWellFormedWith s ls → (0 < t) × (t ≤ 64) → IsKept (unlock_row t a s ls)
well_formed_unlock t a s ls th h id =
    let l = lock_at a ls in
    either IsKept (not (is_holder t l)) _ _ (λ _. h) (λ n.
    let holds : is_holder t l ≡ true = not_not (is_holder t l) n in
    well_formed_released a (given_up t l) s ls h
    (record {
      proper = proper_given_up l t (proper_at a ls h.table) id.0;
      exclusive = exclusive_given_up l t (exclusive_at a ls h.table) holds;
      threads = th;
    })
    (λ q y. other_given_up l t q (h.no_waiter_holds a q y))
    (held_not_full a s ls (holder_holds t l holds)))
