-- What keeps threads and mutexes well-formed together.
use Rattle.std.proofs.Common.{◌≡◌, ℕ, ◌-◌, ◌≤◌, ◌<◌, ◌==◌, nat_eq, Bool, true, false, eqb, eqb-true, ◌||◌, not, List, [], ◌∷◌, Option, Some, None, refl, arith}
use Rattle.std.specs.List.{list_all, find}
use Rattle.std.proofs.lemmas.Bool.Decides.{nat_tests}
use Rattle.std.proofs.lemmas.List.Folds.{list_all-append}
use Rattle.ckrt_thread.specs.declared.records.Wait.{Wait}
use Rattle.ckrt_thread.specs.declared.records.Reason.{Reason}
use Rattle.ckrt_thread.specs.declared.records.Reason.TheVariants as reason
use Rattle.ckrt_thread.specs.declared.records.Object.TheVariants as object
use Rattle.ckrt_thread.specs.Waits.{is_for, is_reason_for, is_of, without}
use Rattle.ckrt_thread.specs.State.{State, blocked}
use Rattle.ckrt_objects.specs.declared.address_map.Entry.{Entry}
use Rattle.ckrt_mutex.specs.declared.records.Kind.{Kind}
use Rattle.ckrt_mutex.specs.declared.records.Mutex.{Mutex}
use Rattle.ckrt_objects.specs.AddressMap.{has_entry, removed}
use Rattle.ckrt_objects.specs.InUse.{is_name, names, is_named}
use Rattle.ckrt_mutex.specs.Mutex.{free, owned, is_owned, is_owner, is_thread, is_plain, is_proper, mutex_at, put, IsTable}
use Rattle.ckrt_mutex.specs.Rows.{named, mutex_of, is_used, used_count, is_full}
use Rattle.ckrt_mutex.specs.WellFormed.{is_lock, is_retake, waits_at_owned, relocks_normal, retakes_of_another, can_retake, can_wake, meets_at, meets, AllMeet, IsWellFormedWith}
use Rattle.ckrt_objects.proofs.AddressMap.{entry_removed, entry_stored}
use Rattle.ckrt_objects.proofs.Changes.{not_full, used_not_full, entry_in_use, count_removed, few_appended, count_unnamed, count_among}
use Rattle.ckrt_objects.proofs.InUse.{any_in_use, few_kept}
use Rattle.ckrt_objects.proofs.Waits.{either, all_true, IsAmong, any_among, among_without, found_all}
use Rattle.ckrt_mutex.proofs.Table.{mutex_put, table_put, owned_entry, other_entry, proper_at, proper_unlocked}

-- HOW MANY ARE IN USE

pub owned_not_full : (a : ℕ) (s : State) (ms : List (Entry Mutex)) → is_owned (mutex_at a ms) ≡ true → is_full a s ms ≡ false
owned_not_full a s ms o = used_not_full named 256 a s.waits ms (entry_in_use named a s.waits ms (owned_entry a ms o))

-- one that isn't free and normal is in use
pub other_not_full : (a : ℕ) (s : State) (ms : List (Entry Mutex)) → is_plain (mutex_at a ms) ≡ false → is_full a s ms ≡ false
other_not_full a s ms p = used_not_full named 256 a s.waits ms (entry_in_use named a s.waits ms (other_entry a ms p))

entry_put : (a q : ℕ) (m : Mutex) (es : List (Entry Mutex)) → has_entry q (put a m es) ≡ true → (nat_eq q a || has_entry q es) ≡ true
entry_put a q m es h = grind (arith, nat_tests, entry_removed a q es, entry_stored a q m es)

-- THE RULES for waits, after a mutex has become another

module _ (rule : Mutex → Wait → Bool) (a : ℕ) (m : Mutex) (ms : List (Entry Mutex)) (t : IsTable ms) (c : is_proper m ≡ true)
    (p : Wait → Bool) (kept : (w : Wait) → p w ≡ true → names named a w ≡ true → rule (mutex_at a ms) w ≡ true → rule m w ≡ true) where
  meets_put : (o : Option ℕ) (w : Wait) → o ≡ named w → p w ≡ true → meets_at rule ms o w ≡ true → meets_at rule (put a m ms) o w ≡ true
  meets_put None w e q h = refl
  meets_put (Some b) w e q h =
      rw (mutex_put a b m ms t c)
      (either (λ x. rule x w ≡ true) (eqb a b) m (mutex_at b ms)
      (λ same. kept w q (rw (← e) same) (rw (eqb-true a b same) h))
      (λ _. h))

  all_meet_put : (ws : List Wait) → list_all p ws ≡ true → list_all (meets rule ms) ws ≡ true → list_all (meets rule (put a m ms)) ws ≡ true
  all_meet_put [] q h = refl
  all_meet_put (w ∷ ws) q h = grind (arith, nat_tests, meets_put (named w) w refl, all_meet_put ws)

-- what a change of the mutex at an address keeps of a rule, for the waits that pass p
abbrev Keeps : (Mutex → Wait → Bool) → ℕ → Mutex → List (Entry Mutex) → (Wait → Bool) → Type 0
Keeps rule a m ms p = (w : Wait) → p w ≡ true → names named a w ≡ true → rule (mutex_at a ms) w ≡ true → rule m w ≡ true

-- the mutex at an address becomes another, and some waits may end
well_formed_change : (a : ℕ) (m : Mutex) (s z : State) (ms : List (Entry Mutex)) (p : Wait → Bool) → IsWellFormedWith s ms → is_proper m ≡ true
    → used_count z (put a m ms) ≤ 256 → IsAmong z.waits s.waits → list_all p z.waits ≡ true
    → Keeps waits_at_owned a m ms p → Keeps relocks_normal a m ms p → Keeps retakes_of_another a m ms p → Keeps can_wake a m ms p → IsWellFormedWith z (put a m ms)
well_formed_change a m s z ms p h c few among q k1 k2 k3 k4 = record {
  table = table_put a m ms c h.table;
  at_most_256_in_use = few;
  nobody_waits_at_a_free_mutex = all_meet_put waits_at_owned a m ms h.table c p k1 z.waits q (among (meets waits_at_owned ms) h.nobody_waits_at_a_free_mutex);
  only_a_normal_mutex_waits_for_its_owner = all_meet_put relocks_normal a m ms h.table c p k2 z.waits q (among (meets relocks_normal ms) h.only_a_normal_mutex_waits_for_its_owner);
  nobody_retakes_its_own_mutex = all_meet_put retakes_of_another a m ms h.table c p k3 z.waits q (among (meets retakes_of_another ms) h.nobody_retakes_its_own_mutex);
  condition_waiters_can_retake = all_meet_put can_wake a m ms h.table c p k4 z.waits q (among (meets can_wake ms) h.condition_waiters_can_retake);
}

pub used_put : (a q : ℕ) (m : Mutex) (s z : State) (ms : List (Entry Mutex)) → IsAmong z.waits s.waits → is_used q z (put a m ms) ≡ true → (nat_eq q a || is_used q s ms) ≡ true
used_put a q m s z ms among u =
    grind (arith, nat_tests, any_in_use named q z.waits (put a m ms), any_in_use named q s.waits ms, entry_put a q m ms, any_among z.waits s.waits among (names named q))

pub few_put : (a : ℕ) (m : Mutex) (s z : State) (ms : List (Entry Mutex)) → used_count s ms ≤ 256 → is_full a s ms ≡ false → IsAmong z.waits s.waits → used_count z (put a m ms) ≤ 256
few_put a m s z ms few f among = few_kept named 256 a s.waits z.waits ms (put a m ms) few (not_full named 256 a s.waits ms f) (λ q u. used_put a q m s z ms among u)

pub few_removed : (a : ℕ) (s : State) (ms : List (Entry Mutex)) → used_count s ms ≤ 256 → used_count s (removed a ms) ≤ 256
few_removed a s ms few = omega (arith, count_removed named a s.waits s.waits ms (λ f h. h), few)

-- a mutex becomes a thread's that does not wait
pub well_formed_owned : (a : ℕ) (k : Kind) (n t : ℕ) (s z : State) (ms : List (Entry Mutex)) → IsWellFormedWith s ms → is_proper (owned k t n) ≡ true → is_full a s ms ≡ false
    → IsAmong z.waits s.waits → list_all (λ w. not (is_of t w)) z.waits ≡ true → IsWellFormedWith z (put a (owned k t n) ms)
well_formed_owned a k n t s z ms h c f among q =
    well_formed_change a (owned k t n) s z ms (λ w. not (is_of t w)) h c (few_put a (owned k t n) s z ms h.at_most_256_in_use f among) among q
    (λ w q _ _. grind (arith, nat_tests)) (λ w q _ _. grind (arith, nat_tests)) (λ w q _ _. grind (arith, nat_tests)) (λ w q _ _. grind (arith, nat_tests))

-- who waits for a mutex names it, and who names one waits for it or at a condition
for_names : (a : ℕ) (r : Reason) → is_reason_for (object.Mutex a) r ≡ true → is_name a (mutex_of r) ≡ true
for_names a reason.Input h = absurd (cc)
for_names a reason.Sleep h = absurd (cc)
for_names a (reason.Join i) h = absurd (cc)
for_names a (reason.Lock m) h = h
for_names a (reason.Retake m v) h = h
for_names a (reason.Condition c m) h = absurd (cc)
for_names a (reason.Barrier b) h = absurd (cc)
for_names a (reason.Read l) h = absurd (cc)
for_names a (reason.Write l) h = absurd (cc)

sought_named : (a : ℕ) (r : Reason) → is_name a (mutex_of r) ≡ true → (is_lock r || is_retake r) ≡ true → is_reason_for (object.Mutex a) r ≡ true
sought_named a reason.Input n h = absurd (cc)
sought_named a reason.Sleep n h = absurd (cc)
sought_named a (reason.Join i) n h = absurd (cc)
sought_named a (reason.Lock m) n h = n
sought_named a (reason.Retake m v) n h = n
sought_named a (reason.Condition c m) n h = absurd (cc)
sought_named a (reason.Barrier b) n h = absurd (cc)
sought_named a (reason.Read l) n h = absurd (cc)
sought_named a (reason.Write l) n h = absurd (cc)

pub none_sought : (a : ℕ) (ws : List Wait) → is_named named a ws ≡ false → list_all (λ w. not (is_for (object.Mutex a) w)) ws ≡ true
none_sought a [] h = refl
none_sought a (w ∷ ws) h = grind (arith, nat_tests, none_sought a ws, for_names a w.reason)

-- a mutex that nobody waits for becomes free
pub well_formed_free : (a : ℕ) (k : Kind) (s : State) (ms : List (Entry Mutex)) → IsWellFormedWith s ms → used_count s (put a (free k) ms) ≤ 256
    → list_all (λ w. not (is_for (object.Mutex a) w)) s.waits ≡ true → IsWellFormedWith s (put a (free k) ms)
well_formed_free a k s ms h few q =
    well_formed_change a (free k) s s ms (λ w. not (is_for (object.Mutex a) w)) h refl few (λ f x. x) q
    (λ w q n _. grind (arith, nat_tests, sought_named a w.reason n)) (λ w q _ _. grind (arith, nat_tests)) (λ w q _ _. grind (arith, nat_tests)) (λ w q _ _. grind (arith, nat_tests))

same_thread : (t u : ℕ) (o : Option ℕ) → is_thread t o ≡ true → is_thread u o ≡ (u == t)
same_thread t u None h = absurd (cc)
same_thread t u (Some v) h = grind (arith, nat_tests)

-- a mutex is unlocked once, and stays its owner's
pub well_formed_less : (a t : ℕ) (s : State) (ms : List (Entry Mutex)) → IsWellFormedWith s ms → is_owner t (mutex_at a ms) ≡ true → 1 < (mutex_at a ms).count
    → is_full a s ms ≡ false → IsWellFormedWith s (put a (owned (mutex_at a ms).kind t ((mutex_at a ms).count - 1)) ms)
well_formed_less a t s ms h o l f =
    let m = mutex_at a ms in
    let n = owned m.kind t (m.count - 1) in
    well_formed_change a n s s ms (λ _. true) h (proper_unlocked m t (proper_at a ms h.table) o l) (few_put a n s s ms h.at_most_256_in_use f (λ g x. x)) (λ g x. x) (all_true s.waits)
    (λ w _ _ _. grind (arith, nat_tests)) (λ w _ _ r. grind (arith, nat_tests, same_thread t w.thread m.owner o)) (λ w _ _ r. grind (arith, nat_tests, same_thread t w.thread m.owner o)) (λ w _ _ r. grind (arith, nat_tests, same_thread t w.thread m.owner o))

-- A THREAD WAITS from now on, or no longer

module _ (r : Reason) (t : ℕ) (d : Option ℕ) (s : State) (ms : List (Entry Mutex)) where
  meets_blocked : (rule : Mutex → Wait → Bool) → meets rule ms (record { thread = t; reason = r; deadline = d }) ≡ true → AllMeet rule s ms → AllMeet rule (blocked t r d s) ms
  meets_blocked rule n h = grind (arith, nat_tests, list_all-append (meets rule ms) s.waits (record { thread = t; reason = r; deadline = d } ∷ []), h, n)

  -- a wait that names a mutex, and meets the rules
  pub well_formed_blocked : (a : ℕ) → mutex_of r ≡ Some a → is_full a s ms ≡ false → IsWellFormedWith s ms
      → waits_at_owned (mutex_at a ms) (record { thread = t; reason = r; deadline = d }) ≡ true
      → relocks_normal (mutex_at a ms) (record { thread = t; reason = r; deadline = d }) ≡ true
      → retakes_of_another (mutex_at a ms) (record { thread = t; reason = r; deadline = d }) ≡ true
      → can_wake (mutex_at a ms) (record { thread = t; reason = r; deadline = d }) ≡ true → IsWellFormedWith (blocked t r d s) ms
  well_formed_blocked a e f h k1 k2 k3 k4 = record {
    table = h.table;
    at_most_256_in_use = few_appended named 256 a s.waits (record { thread = t; reason = r; deadline = d }) ms e h.at_most_256_in_use f;
    nobody_waits_at_a_free_mutex = meets_blocked waits_at_owned (rw e k1) h.nobody_waits_at_a_free_mutex;
    only_a_normal_mutex_waits_for_its_owner = meets_blocked relocks_normal (rw e k2) h.only_a_normal_mutex_waits_for_its_owner;
    nobody_retakes_its_own_mutex = meets_blocked retakes_of_another (rw e k3) h.nobody_retakes_its_own_mutex;
    condition_waiters_can_retake = meets_blocked can_wake (rw e k4) h.condition_waiters_can_retake;
  }

  -- a wait that names no mutex
  pub well_formed_unnamed : mutex_of r ≡ None → IsWellFormedWith s ms → IsWellFormedWith (blocked t r d s) ms
  well_formed_unnamed e h = record {
    table = h.table;
    at_most_256_in_use = (let le = count_unnamed named s.waits (record { thread = t; reason = r; deadline = d }) ms e in omega (arith, le, h.at_most_256_in_use));
    nobody_waits_at_a_free_mutex = meets_blocked waits_at_owned (rw e refl) h.nobody_waits_at_a_free_mutex;
    only_a_normal_mutex_waits_for_its_owner = meets_blocked relocks_normal (rw e refl) h.only_a_normal_mutex_waits_for_its_owner;
    nobody_retakes_its_own_mutex = meets_blocked retakes_of_another (rw e refl) h.nobody_retakes_its_own_mutex;
    condition_waiters_can_retake = meets_blocked can_wake (rw e refl) h.condition_waiters_can_retake;
  }

well_formed_fewer : (s z : State) (ms : List (Entry Mutex)) → IsAmong z.waits s.waits → IsWellFormedWith s ms → IsWellFormedWith z ms
well_formed_fewer s z ms among h = record {
  table = h.table;
  at_most_256_in_use = (let le = count_among named z.waits s.waits ms among in omega (arith, le, h.at_most_256_in_use));
  nobody_waits_at_a_free_mutex = among (meets waits_at_owned ms) h.nobody_waits_at_a_free_mutex;
  only_a_normal_mutex_waits_for_its_owner = among (meets relocks_normal ms) h.only_a_normal_mutex_waits_for_its_owner;
  nobody_retakes_its_own_mutex = among (meets retakes_of_another ms) h.nobody_retakes_its_own_mutex;
  condition_waiters_can_retake = among (meets can_wake ms) h.condition_waiters_can_retake;
}

-- the waits are the same
pub well_formed_same : (s z : State) (ms : List (Entry Mutex)) → z.waits ≡ s.waits → IsWellFormedWith s ms → IsWellFormedWith z ms
well_formed_same s z ms e h = well_formed_fewer s z ms (λ f x. rw e x) h

-- a wait has ended
pub well_formed_unwaited : (t : ℕ) (s z : State) (ms : List (Entry Mutex)) → z.waits ≡ without t s.waits → IsWellFormedWith s ms → IsWellFormedWith z ms
well_formed_unwaited t s z ms e h = well_formed_fewer s z ms (λ f x. rw e (among_without t s.waits f x)) h

-- A CONDITION WAITER whose wait has been taken away can retake its mutex

pub can_retake_after : (p : Wait → Bool) (s : State) (ms : List (Entry Mutex)) (w : Wait) (a b : ℕ) → IsWellFormedWith s ms → find p s.waits ≡ Some w → w.reason ≡ reason.Condition b a
    → can_retake w.thread (mutex_at a ms) ≡ true
can_retake_after p s ms w a b h e r =
    let met = found_all p (meets can_wake ms) s.waits w e h.condition_waiters_can_retake in
    rw r at met
