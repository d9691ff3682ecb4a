-- What well-formed tables imply for a program.
use Rattle.std.proofs.Common.{◌≡◌, ℕ, ◌+◌, ◌≤◌, cond, Bool, true, false, is_some, is_none, Option, Some, None, List, [], ◌∷◌, IfSome, refl, arith}
use Rattle.std.specs.List.{find, list_all}
use Rattle.std.proofs.lemmas.Bool.Decides.{nat_tests}
use Rattle.ckrt_thread.specs.declared.records.Wait.{Wait}
use Rattle.ckrt_thread.specs.declared.records.Object.TheVariants as object
use Rattle.ckrt_thread.specs.declared.records.Reason.{Reason}
use Rattle.ckrt_thread.specs.declared.records.Reason.TheVariants as reason
use Rattle.ckrt_thread.specs.Waits.{is_for, is_of, is_reason_for, joins_another}
use Rattle.ckrt_thread.specs.State.{count_of, first_waiter, holds, is_joinable, is_joined, is_live, is_waiting, joiners, thread_of}
use Rattle.ckrt_thread.specs.Granting.{has_admissible_waiter, is_first_admissible}
use Rattle.ckrt_thread.proofs.Known.{if_on_hart, waiting_live}
use Rattle.ckrt_objects.specs.declared.address_map.Entry.{Entry}
use Rattle.ckrt_mutex.specs.declared.records.Mutex.{Mutex}
use Rattle.ckrt_mutex.specs.Mutex.{mutex_at, is_owned}
use Rattle.ckrt_mutex.specs.Rows.{mutex_rule, mutex_of}
use Rattle.ckrt_mutex.specs.WellFormed.{meets, meets_at, waits_at_owned}
use Rattle.ckrt_rwlock.specs.RwLock.{lock_at, is_exclusive}
use Rattle.ckrt_rwlock.specs.Rows.{rwlock_rule}
use Rattle.ckrt_rwlock.proofs.Table.{exclusive_at}
use Rattle.ckrt_calls.specs.declared.table.Tables.{Tables}
use Rattle.ckrt_calls.specs.WellFormed.{IsWellFormed}
use Rattle.ckrt_machine.specs.Steps.{hart_of}

-- who waits to lock or to retake a mutex waits at one that is owned
at_owned_by : (a : ℕ) (ms : List (Entry Mutex)) (w : Wait) (r : Reason) → w.reason ≡ r → is_reason_for (object.Mutex a) r ≡ true → meets_at waits_at_owned ms (mutex_of r) w ≡ true → is_owned (mutex_at a ms) ≡ true
at_owned_by a ms w reason.Input e f h = absurd (cc)
at_owned_by a ms w reason.Sleep e f h = absurd (cc)
at_owned_by a ms w (reason.Join i) e f h = absurd (cc)
at_owned_by a ms w (reason.Lock m) e f h =
    let same : a ≡ m = grind (arith, nat_tests) in
    rw same (rw e at h)
at_owned_by a ms w (reason.Retake m v) e f h =
    let same : a ≡ m = grind (arith, nat_tests) in
    rw same (rw e at h)
at_owned_by a ms w (reason.Condition c m) e f h = absurd (cc)
at_owned_by a ms w (reason.Barrier b) e f h = absurd (cc)
at_owned_by a ms w (reason.Read l) e f h = absurd (cc)
at_owned_by a ms w (reason.Write l) e f h = absurd (cc)

first_at_owned : (a : ℕ) (ms : List (Entry Mutex)) (ws : List Wait) (w : Wait) → find (is_for (object.Mutex a)) ws ≡ Some w → list_all (meets waits_at_owned ms) ws ≡ true → is_owned (mutex_at a ms) ≡ true
first_at_owned a ms [] w e h = absurd (cc)
first_at_owned a ms (v ∷ ws) w e h = grind (arith, nat_tests, first_at_owned a ms ws w, at_owned_by a ms v v.reason refl)

owned_not_none : (o : Option ℕ) → is_some o ≡ true → is_none o ≡ false
owned_not_none None e = absurd (cc)
owned_not_none (Some t) e = refl

not_admissible : (a : ℕ) (s : Tables) (o : Option Wait) → first_waiter (object.Mutex a) s.threads ≡ o → IsWellFormed s → IfSome o (λ w. (mutex_rule a).is_admissible (mutex_at a s.mutexes) w ≡ false)
not_admissible a s None e h = tt
not_admissible a s (Some w) e h = owned_not_none (mutex_at a s.mutexes).owner (first_at_owned a s.mutexes s.threads.waits w e h.mutexes.nobody_waits_at_a_free_mutex)

pub no_admissible_wait : (s : Tables) (a : ℕ) → IsWellFormed s → IfSome (first_waiter (object.Mutex a) s.threads) (λ w. (mutex_rule a).is_admissible (mutex_at a s.mutexes) w ≡ false)
no_admissible_wait s a h = not_admissible a s (first_waiter (object.Mutex a) s.threads) refl h

-- the same in the words of the rule
not_granted : (a : ℕ) (s : Tables) (o : Option Wait) → IfSome o (λ w. (mutex_rule a).is_admissible (mutex_at a s.mutexes) w ≡ false) → is_first_admissible (mutex_rule a) o (mutex_at a s.mutexes) ≡ false
not_granted a s None h = refl
not_granted a s (Some w) h = h

pub no_admissible_waiter : (s : Tables) (a : ℕ) → IsWellFormed s → has_admissible_waiter (mutex_rule a) (mutex_at a s.mutexes, s.threads) ≡ false
no_admissible_waiter s a h = not_granted a s (first_waiter (object.Mutex a) s.threads) (no_admissible_wait s a h)

pub exclusive : (s : Tables) (a : ℕ) → IsWellFormed s → is_exclusive (lock_at a s.rwlocks) ≡ true
exclusive s a h = exclusive_at a s.rwlocks h.rwlocks.table

at_most : (n k : ℕ) (b : Bool) → n + k ≤ cond b 1 0 → n ≤ 1
at_most n k true l = omega arith
at_most n k false l = omega arith

pub waits_once : (s : Tables) (t : ℕ) → IsWellFormed s → count_of (is_of t) s.threads.waits ≤ 1
waits_once s t h = at_most _ _ (is_live s.threads t) (h.threads.placed t)

pub ready_on_hart : (s : Tables) (n : ℕ) → IsWellFormed s → IfSome (hart_of s n) (λ t. (is_live s.threads t ≡ true) × (is_waiting s.threads t ≡ false))
ready_on_hart s n h = if_on_hart s.threads n (hart_of s n) refl h.threads

pub no_admissible_locker : (s : Tables) (a : ℕ) → IsWellFormed s → has_admissible_waiter (rwlock_rule a) (lock_at a s.rwlocks, s.threads) ≡ false
no_admissible_locker s a h = h.rwlocks.no_first_waiter_is_admissible a

-- OF THREADS

pub waiter_lives : (s : Tables) (t : ℕ) → IsWellFormed s → is_waiting s.threads t ≡ true → is_live s.threads t ≡ true
waiter_lives s t h e = waiting_live s.threads t h.threads e

at_most_beside : (n k : ℕ) (b : Bool) → n + k ≤ cond b 1 0 → k ≤ 1
at_most_beside n k true l = omega arith
at_most_beside n k false l = omega arith

pub on_one_hart : (s : Tables) (t : ℕ) → IsWellFormed s → count_of (holds t) s.threads.harts ≤ 1
on_one_hart s t h = at_most_beside _ _ (is_live s.threads t) (h.threads.placed t)

at_most_alone : (n : ℕ) (b : Bool) → n ≤ cond b 1 0 → n ≤ 1
at_most_alone n true l = l
at_most_alone n false l = omega arith

pub joined_by_one : (s : Tables) (t : ℕ) → IsWellFormed s → joiners s.threads t ≤ 1
joined_by_one s t h = at_most_alone (joiners s.threads t) (is_joinable (thread_of s.threads t)) (h.threads.joined_target t)

found_counts : (p : Wait → Bool) (ws : List Wait) → is_some (find p ws) ≡ true → 1 ≤ count_of p ws
found_counts p [] e = absurd (cc)
found_counts p (w ∷ ws) e = grind (arith, nat_tests, found_counts p ws)

counted_is : (n : ℕ) (b : Bool) → 1 ≤ n → n ≤ cond b 1 0 → b ≡ true
counted_is n true l m = refl
counted_is n false l m = absurd (omega arith)

pub joined_is_joinable : (s : Tables) (t : ℕ) → IsWellFormed s → is_joined t s.threads ≡ true → is_joinable (thread_of s.threads t) ≡ true
joined_is_joinable s t h e = counted_is _ _ (found_counts (is_for (object.End t)) s.threads.waits e) (h.threads.joined_target t)

pub by_another : (s : Tables) → IsWellFormed s → list_all joins_another s.threads.waits ≡ true
by_another s h = h.threads.joined_by_another
