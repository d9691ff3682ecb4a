-- What the release of one level of a mutex leaves: its thread can wait, and can retake it.
use Rattle.std.proofs.Common.{◌≡◌, ℕ, ◌-◌, ◌≤◌, ◌<◌, nat_lt, eqb, if◌then◌else◌, Bool, true, false, not, ◌&&◌, List, ◌∷◌, Option, Some, None, refl, arith}
use Rattle.std.proofs.lemmas.Bool.Decides.{nat_tests}
use Rattle.ckrt_thread.specs.declared.records.Wait.{Wait}
use Rattle.ckrt_thread.specs.declared.records.Object.TheVariants as object
use Rattle.ckrt_thread.specs.declared.records.CallResult.TheVariants.{Done}
use Rattle.ckrt_thread.specs.Waits.{is_for}
use Rattle.ckrt_thread.specs.State.{State, IsWellFormed, is_waiting, first_waiter}
use Rattle.ckrt_thread.specs.Granting.{obtained}
use Rattle.ckrt_thread.proofs.WaitLemmas.{found_waits}
use Rattle.ckrt_objects.specs.declared.address_map.Entry.{Entry}
use Rattle.ckrt_mutex.specs.declared.records.Kind.{Kind}
use Rattle.ckrt_mutex.specs.declared.records.Kind.TheVariants.{Normal, Recursive, ErrorCheck}
use Rattle.ckrt_mutex.specs.declared.records.Mutex.{Mutex}
use Rattle.ckrt_mutex.specs.Mutex.{free, owned, is_owner, is_thread, is_recursive, is_proper, is_proper_count, mutex_at, put, IsTable}
use Rattle.ckrt_objects.specs.InUse.{addresses_in_use}
use Rattle.ckrt_mutex.specs.Rows.{After, named, is_used, used_count, is_full, released, unlock_row}
use Rattle.ckrt_mutex.specs.WellFormed.{can_retake, IsWellFormedWith}
use Rattle.ckrt_objects.proofs.InUse.{any_in_use, distinct_le, distinct_cons}
use Rattle.ckrt_mutex.proofs.Table.{mutex_put, owned_by_some, owned_entry, proper_at, proper_once, proper_unlocked}
use Rattle.ckrt_mutex.proofs.Granting.{grants_none, grants_first}
use Rattle.ckrt_mutex.proofs.WellFormed.{used_put}
use Rattle.ckrt_thread.specs.Errors.{EPERM, EINVAL}
use Rattle.ckrt_cond.specs.Rows.{waiters, is_with_other, has_other_mutex, wait_refusal}
use Rattle.ckrt_objects.proofs.Granting.{first_range}
use Rattle.ckrt_objects.proofs.Obtained.{among_obtained, queue_obtained}
use Rattle.ckrt_objects.proofs.Waits.{either, another, IsAmong, none_among, found_holds}
use Rattle.ckrt_cond.proofs.Waits.{mutex_not_condition, join_not_condition}

-- the three ways of a release: the thread has the mutex still; nobody waits for it; the first who waits has it
module _ (P : After → Type 0) (t a : ℕ) (s : State) (ms : List (Entry Mutex)) where
  handed : (k : Kind) (o : Option Wait) → first_waiter (object.Mutex a) s ≡ o
      → P (record { result = Done 0; threads = s; mutexes = put a (free k) ms })
      → ((w : Wait) → first_waiter (object.Mutex a) s ≡ Some w → P (record { result = Done 0; threads = obtained w s; mutexes = put a (owned k w.thread 1) ms }))
      → P (released k a s ms)
  handed k None e none some = rw (grants_none a k s e) none
  handed k (Some w) e none some = rw (grants_first a k s w e) (some w e)

  pub release_ways : is_owner t (mutex_at a ms) ≡ true
      → (1 < (mutex_at a ms).count → P (record { result = Done 0; threads = s; mutexes = put a (owned (mutex_at a ms).kind t ((mutex_at a ms).count - 1)) ms }))
      → P (record { result = Done 0; threads = s; mutexes = put a (free (mutex_at a ms).kind) ms })
      → ((w : Wait) → first_waiter (object.Mutex a) s ≡ Some w → P (record { result = Done 0; threads = obtained w s; mutexes = put a (owned (mutex_at a ms).kind w.thread 1) ms }))
      → P (unlock_row t a s ms)
  release_ways o less none some =
      let m = mutex_at a ms in
      either P (not (is_owner t m)) _ _ (λ n. absurd (grind (arith, nat_tests, o, n)))
      (λ _. either P (nat_lt 1 m.count) _ _ (λ l. less (grind (arith, nat_tests, l))) (λ _. handed m.kind (first_waiter (object.Mutex a) s) refl none some))

module _ (t a : ℕ) (s : State) (ms : List (Entry Mutex)) (o : is_owner t (mutex_at a ms) ≡ true) where
  -- no wait begins
  pub release_among : IsAmong (unlock_row t a s ms).threads.waits s.waits
  release_among = release_ways (λ r. IsAmong r.threads.waits s.waits) t a s ms o (λ _ f h. h) (λ f h. h) (λ w _. among_obtained w s)

refused_none : (o b : Bool) → (if not o then Some EPERM else (if b then Some EINVAL else None)) ≡ None → (o ≡ true) × (b ≡ false)
refused_none true true h = absurd (cc)
refused_none true false h = (refl, refl)
refused_none false b h = absurd (cc)

-- a wait that may begin: the mutex is the thread's, and nobody waits with another
pub may_begin : (t c a : ℕ) (s : State) (ms : List (Entry Mutex)) → wait_refusal t c a s ms ≡ None → (is_owner t (mutex_at a ms) ≡ true) × (has_other_mutex c a s ≡ false)
may_begin t c a s ms h = refused_none (is_owner t (mutex_at a ms)) (has_other_mutex c a s) h

-- nobody waits with another mutex after the release either
pub release_other : (t c a : ℕ) (s : State) (ms : List (Entry Mutex)) → wait_refusal t c a s ms ≡ None → has_other_mutex c a (unlock_row t a s ms).threads ≡ false
release_other t c a s ms h =
    let m = may_begin t c a s ms h in
    none_among (unlock_row t a s ms).threads.waits s.waits (release_among t a s ms m.0) (λ v. is_with_other c a v.reason) m.1

-- the release ends no wait at a condition
pub release_queue : (t c a : ℕ) (s : State) (ms : List (Entry Mutex)) → IsWellFormed s → is_owner t (mutex_at a ms) ≡ true → waiters c (unlock_row t a s ms).threads ≡ waiters c s
release_queue t c a s ms k o =
    let p = is_for (object.Mutex a) in
    release_ways (λ r. waiters c r.threads ≡ waiters c s) t a s ms o (λ _. refl) refl
    (λ w e. queue_obtained (is_for (object.Condition c)) (λ u v h. join_not_condition u c v.reason h) p w s k e (mutex_not_condition a c w.reason (found_holds p s.waits w e)))

-- where a mutex that was in use becomes another, it is in use still, or fewer are
pub not_full_put : (a : ℕ) (m : Mutex) (s z : State) (ms : List (Entry Mutex)) → used_count s ms ≤ 256 → is_used a s ms ≡ true → IsAmong z.waits s.waits → is_full a z (put a m ms) ≡ false
not_full_put a m s z ms few used among =
    let le : is_used a z (put a m ms) ≡ false → used_count z (put a m ms) < 256 =
    λ n. (let d = distinct_le (a ∷ addresses_in_use named z.waits (put a m ms)) (addresses_in_use named s.waits ms) (λ q x. grind (arith, nat_tests, used_put a q m s z ms among, used, x)) in
    grind (arith, nat_tests, d, n, few, distinct_cons a (addresses_in_use named z.waits (put a m ms)))) in
    grind (arith, nat_tests, le)

recursive_more : (k : Kind) (n t : ℕ) (o : Option ℕ) → is_proper_count k n o ≡ true → is_thread t o ≡ true → 1 < n → (is_recursive k && nat_lt (n - 1) 65535) ≡ true
recursive_more k n t None p o l = absurd (cc)
recursive_more Normal n t (Some u) p o l = absurd (grind (arith, nat_tests))
recursive_more Recursive n t (Some u) p o l = grind (arith, nat_tests)
recursive_more ErrorCheck n t (Some u) p o l = absurd (grind (arith, nat_tests))

put_retaken : (t a : ℕ) (m : Mutex) (ms : List (Entry Mutex)) → IsTable ms → is_proper m ≡ true → can_retake t m ≡ true → can_retake t (mutex_at a (put a m ms)) ≡ true
put_retaken t a m ms b c k =
    rw (mutex_put a a m ms b c) (either (λ x. can_retake t x ≡ true) (eqb a a) m (mutex_at a ms) (λ _. k) (λ n. absurd (grind (arith, nat_tests, n))))

module _ (t a : ℕ) (s : State) (ms : List (Entry Mutex)) (o : is_owner t (mutex_at a ms) ≡ true) (h : IsWellFormedWith s ms) where
  used_owned : is_used a s ms ≡ true
  used_owned = grind (arith, nat_tests, owned_entry a ms (owned_by_some t (mutex_at a ms).owner o), any_in_use named a s.waits ms)

  pub release_room : is_full a (unlock_row t a s ms).threads (unlock_row t a s ms).mutexes ≡ false
  release_room =
      let few = h.at_most_256_in_use in
      release_ways (λ r. is_full a r.threads r.mutexes ≡ false) t a s ms o
      (λ _. not_full_put a (owned (mutex_at a ms).kind t ((mutex_at a ms).count - 1)) s s ms few used_owned (λ f x. x))
      (not_full_put a (free (mutex_at a ms).kind) s s ms few used_owned (λ f x. x))
      (λ w _. not_full_put a (owned (mutex_at a ms).kind w.thread 1) s (obtained w s) ms few used_owned (among_obtained w s))

  -- what is left of the mutex can be locked once more by the thread, where the thread owns it still
  pub release_count : IsWellFormed s → is_waiting s t ≡ false → can_retake t (mutex_at a (unlock_row t a s ms).mutexes) ≡ true
  release_count k n =
      let m = mutex_at a ms in
      let p = proper_at a ms h.table in
      release_ways (λ r. can_retake t (mutex_at a r.mutexes) ≡ true) t a s ms o
      (λ l. put_retaken t a (owned m.kind t (m.count - 1)) ms h.table (proper_unlocked m t p o l) (let r = recursive_more m.kind m.count t m.owner p o l in grind (arith, nat_tests, r)))
      (put_retaken t a (free m.kind) ms h.table refl refl)
      (λ w e. (let id = first_range (object.Mutex a) s w k e in
      put_retaken t a (owned m.kind w.thread 1) ms h.table (proper_once m.kind w.thread id.0 id.1)
      (let other = another w.thread t s.waits (found_waits (is_for (object.Mutex a)) s.waits w e) n in grind (arith, nat_tests, other))))
