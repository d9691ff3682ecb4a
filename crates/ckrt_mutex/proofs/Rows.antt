-- Each row keeps threads and mutexes well-formed together.
use Rattle.std.proofs.Common.{◌≡◌, ℕ, ◌+◌, ◌≤◌, ◌<◌, nat_lt, nat_le, Bool, true, false, if◌then◌else◌, ◌||◌, ◌&&◌, not, List, Option, Some, None, is_none, is_some, refl, arith}
use Rattle.std.proofs.lemmas.Bool.Decides.{nat_tests}
use Rattle.ckrt_thread.specs.declared.records.RetakeResult.{RetakeResult}
use Rattle.ckrt_thread.specs.declared.records.Wait.{Wait}
use Rattle.ckrt_thread.specs.declared.records.Reason.TheVariants as reason
use Rattle.ckrt_thread.specs.declared.records.Object.TheVariants as object
use Rattle.ckrt_thread.specs.Waits.{is_for, is_of, retake_code, is_moment}
use Rattle.ckrt_thread.specs.State.{State, first_waiter, is_waiting, IsWellFormed}
use Rattle.ckrt_thread.specs.Granting.{answered, obtained}
use Rattle.ckrt_objects.proofs.Granting.{first_range}
use Rattle.ckrt_objects.proofs.Obtained.{among_answered, among_obtained, free_obtained}
use Rattle.ckrt_objects.proofs.Waits.{either, all_not, find_none, none_among}
use Rattle.ckrt_objects.specs.declared.address_map.Entry.{Entry}
use Rattle.ckrt_mutex.specs.declared.records.Kind.{Kind}
use Rattle.ckrt_mutex.specs.declared.records.Kind.TheVariants.{Normal, Recursive, ErrorCheck}
use Rattle.ckrt_mutex.specs.declared.records.Mutex.{Mutex}
use Rattle.ckrt_mutex.specs.Mutex.{free, is_owned, is_owner, is_thread, is_available, is_normal, is_recursive, is_errorcheck, is_proper_count, mutex_at, put}
use Rattle.ckrt_mutex.specs.Rows.{After, is_named, is_full, is_busy, used_count, kind_of, init_kind, init_row, destroy_row, taken, taken_or, waiting, waiting_until, lock_row, timedlock_row, trylock_row, released, unlock_row, retake_row}
use Rattle.ckrt_mutex.specs.WellFormed.{can_retake, IsWellFormedWith}
use Rattle.ckrt_mutex.proofs.Table.{owned_by_some, proper_at, proper_locked, proper_once}
use Rattle.ckrt_mutex.proofs.Granting.{grants_none, grants_first}
use Rattle.ckrt_mutex.proofs.WellFormed.{owned_not_full, few_put, few_removed, well_formed_owned, well_formed_free, well_formed_less, well_formed_blocked, none_sought}

abbrev IsKept : After → Type 0
IsKept r = IsWellFormedWith r.threads r.mutexes

busy_or : (b c : Bool) → (b || c) ≡ false → c ≡ false
busy_or true c h = absurd (cc)
busy_or false c h = h

-- INIT AND DESTROY

pub well_formed_destroy : (a : ℕ) (s : State) (ms : List (Entry Mutex)) → IsWellFormedWith s ms → IsKept (destroy_row a s ms)
well_formed_destroy a s ms h =
    either IsKept (is_busy a s ms) _ _ (λ _. h)
    (λ idle. well_formed_free a Normal s ms h (few_removed a s ms h.at_most_256_in_use) (none_sought a s.waits (busy_or (is_owned (mutex_at a ms)) (is_named a s) idle)))

few_free : (a : ℕ) (k : Kind) (s : State) (ms : List (Entry Mutex)) → IsWellFormedWith s ms → (not (is_normal k) && is_full a s ms) ≡ false → used_count s (put a (free k) ms) ≤ 256
few_free a Normal s ms h f = few_removed a s ms h.at_most_256_in_use
few_free a Recursive s ms h f = few_put a (free Recursive) s s ms h.at_most_256_in_use f (λ g x. x)
few_free a ErrorCheck s ms h f = few_put a (free ErrorCheck) s s ms h.at_most_256_in_use f (λ g x. x)

well_formed_init_kind : (k : Option Kind) (a : ℕ) (s : State) (ms : List (Entry Mutex)) → IsWellFormedWith s ms → IsKept (init_kind k a s ms)
well_formed_init_kind None a s ms h = h
well_formed_init_kind (Some k) a s ms h =
    either IsKept (is_busy a s ms) _ _ (λ _. h) (λ idle.
    either IsKept (not (is_normal k) && is_full a s ms) _ _ (λ _. h) (λ f.
    well_formed_free a k s ms h (few_free a k s ms h f) (none_sought a s.waits (busy_or (is_owned (mutex_at a ms)) (is_named a s) idle))))

pub well_formed_init : (a kind : ℕ) (s : State) (ms : List (Entry Mutex)) → IsWellFormedWith s ms → IsKept (init_row a kind s ms)
well_formed_init a kind s ms h = well_formed_init_kind (kind_of kind) a s ms h

-- LOCK AND TRYLOCK

below : (n : ℕ) (b : Bool) → (nat_le 65535 n || b) ≡ false → n < 65535
below n b h = grind (arith, nat_tests)

well_formed_taken : (t a : ℕ) (s : State) (ms : List (Entry Mutex)) → IsWellFormedWith s ms → (0 < t) × (t ≤ 64) → is_waiting s t ≡ false → is_available t (mutex_at a ms) ≡ true → IsKept (taken (mutex_at a ms) t a s ms)
well_formed_taken t a s ms h id w v =
    let m = mutex_at a ms in
    either IsKept (nat_le 65535 m.count || is_full a s ms) _ _ (λ _. h)
    (λ f. well_formed_owned a m.kind (m.count + 1) t s s ms h
    (proper_locked m t (proper_at a ms h.table) v id.0 id.1 (below m.count (is_full a s ms) f))
    (busy_or (nat_le 65535 m.count) (is_full a s ms) f) (λ g x. x) (all_not (is_of t) s.waits w))

owned_of_some : (o : Option ℕ) (b : Bool) → (is_none o || b) ≡ false → is_some o ≡ true
owned_of_some None b h = absurd (cc)
owned_of_some (Some u) b h = refl

not_available_owned : (t : ℕ) (m : Mutex) → is_available t m ≡ false → is_owned m ≡ true
not_available_owned t m v = owned_of_some m.owner (is_owner t m && is_recursive m.kind) v

kind_left : (k : Kind) → is_recursive k ≡ false → is_errorcheck k ≡ false → is_normal k ≡ true
kind_left Normal r e = refl
kind_left Recursive r e = absurd (cc)
kind_left ErrorCheck r e = absurd (cc)

-- its owner waits for a mutex that is neither recursive nor error-checking
relock : (o n : Bool) (k : Kind) → (n || (o && is_recursive k)) ≡ false → (o && is_errorcheck k) ≡ false → (if o then is_normal k else true) ≡ true
relock true n k v e = kind_left k (grind (arith, nat_tests)) e
relock false n k v e = refl

-- where a thread would wait, it may wait with or without a deadline
well_formed_taken_or : (wait : After) (t a : ℕ) (s : State) (ms : List (Entry Mutex)) → IsWellFormedWith s ms → (0 < t) × (t ≤ 64) → is_waiting s t ≡ false
    → (((d : Option ℕ) → IsKept (waiting t a d s ms)) → IsKept wait) → IsKept (taken_or wait (mutex_at a ms) t a s ms)
well_formed_taken_or wait t a s ms h id w k =
    let m = mutex_at a ms in
    either IsKept (is_available t m) _ _ (λ v. well_formed_taken t a s ms h id w v) (λ v.
    either IsKept (is_owner t m && is_errorcheck m.kind) _ _ (λ _. h) (λ e.
    let o = not_available_owned t m v in
    k (λ d. well_formed_blocked (reason.Lock a) t d s ms a refl (owned_not_full a s ms o) h o (relock (is_owner t m) (is_none m.owner) m.kind v e) refl refl)))

pub well_formed_lock : (t a : ℕ) (s : State) (ms : List (Entry Mutex)) → IsWellFormedWith s ms → (0 < t) × (t ≤ 64) → is_waiting s t ≡ false → IsKept (lock_row t a s ms)
well_formed_lock t a s ms h id w = well_formed_taken_or (waiting t a None s ms) t a s ms h id w (λ k. k None)

pub well_formed_timedlock : (t a moment clock : ℕ) (s : State) (ms : List (Entry Mutex)) → IsWellFormedWith s ms → (0 < t) × (t ≤ 64) → is_waiting s t ≡ false → IsKept (timedlock_row t a moment clock s ms)
well_formed_timedlock t a moment clock s ms h id w =
    well_formed_taken_or (waiting_until t a moment clock s ms) t a s ms h id w (λ k.
    either IsKept (not (is_moment moment)) _ _ (λ _. h) (λ _.
    either IsKept (nat_le moment clock) _ _ (λ _. h) (λ _. k (Some moment))))

pub well_formed_trylock : (t a : ℕ) (s : State) (ms : List (Entry Mutex)) → IsWellFormedWith s ms → (0 < t) × (t ≤ 64) → is_waiting s t ≡ false → IsKept (trylock_row t a s ms)
well_formed_trylock t a s ms h id w =
    either IsKept (is_available t (mutex_at a ms)) _ _ (λ v. well_formed_taken t a s ms h id w v) (λ _. h)

-- UNLOCK

well_formed_released_to : (o : Option Wait) (k : Kind) (a : ℕ) (s : State) (ms : List (Entry Mutex)) → first_waiter (object.Mutex a) s ≡ o → IsWellFormed s → IsWellFormedWith s ms → is_full a s ms ≡ false → IsKept (released k a s ms)
well_formed_released_to None k a s ms e th h f =
    rw (grants_none a k s e) (well_formed_free a k s ms h (few_put a (free k) s s ms h.at_most_256_in_use f (λ g x. x)) (find_none (is_for (object.Mutex a)) s.waits e))
well_formed_released_to (Some w) k a s ms e th h f =
    let id = first_range (object.Mutex a) s w th e in
    rw (grants_first a k s w e)
    (well_formed_owned a k 1 w.thread s (obtained w s) ms h (proper_once k w.thread id.0 id.1) f
    (among_obtained w s) (all_not (is_of w.thread) (obtained w s).waits (free_obtained w s th)))

not_not : (b : Bool) → not b ≡ false → b ≡ true
not_not true h = refl
not_not false h = absurd (cc)

pub well_formed_unlock : (t a : ℕ) (s : State) (ms : List (Entry Mutex)) → IsWellFormed s → IsWellFormedWith s ms → IsKept (unlock_row t a s ms)
well_formed_unlock t a s ms th h =
    let m = mutex_at a ms in
    either IsKept (not (is_owner t m)) _ _ (λ _. h) (λ n.
    let o : is_owner t m ≡ true = not_not (is_owner t m) n in
    let f = owned_not_full a s ms (owned_by_some t m.owner o) in
    either IsKept (nat_lt 1 m.count) _ _ (λ l. well_formed_less a t s ms h o (grind (arith, nat_tests)) f)
    (λ _. well_formed_released_to (first_waiter (object.Mutex a) s) m.kind a s ms refl th h f))

-- RETAKE

-- a mutex that can be retaken, and is available, can be locked once more
once_more : (t n : ℕ) (k : Kind) (o : Option ℕ) → is_proper_count k n o ≡ true → (if is_thread t o then is_recursive k && nat_lt n 65535 else true) ≡ true → (is_none o || (is_thread t o && is_recursive k)) ≡ true → n < 65535
once_more t n k None p c v = grind (arith, nat_tests)
once_more t n k (Some u) p c v = grind (arith, nat_tests)

-- who owns a mutex that it can retake, has it available
another : (t : ℕ) (o r n b : Bool) → (if o then r && b else true) ≡ true → (n || (o && r)) ≡ false → not o ≡ true
another t true r n b c v = absurd (grind (arith, nat_tests))
another t false r n b c v = refl

pub well_formed_retake : (t a : ℕ) (r : RetakeResult) (s : State) (ms : List (Entry Mutex)) → IsWellFormedWith s ms → (0 < t) × (t ≤ 64) → is_waiting s t ≡ false → is_full a s ms ≡ false → can_retake t (mutex_at a ms) ≡ true → IsKept (retake_row t a r s ms)
well_formed_retake t a r s ms h id w f c =
    let m = mutex_at a ms in
    let p = proper_at a ms h.table in
    either IsKept (is_available t m) _ _
    (λ v. let z = answered (retake_code r) t s in
    let among = among_answered (retake_code r) t s in
    well_formed_owned a m.kind (m.count + 1) t s z ms h (proper_locked m t p v id.0 id.1 (once_more t m.count m.kind m.owner p c v)) f
    among (all_not (is_of t) z.waits (none_among z.waits s.waits among (is_of t) w)))
    (λ v. well_formed_blocked (reason.Retake a r) t None s ms a refl f h (not_available_owned t m v) refl (another t (is_owner t m) (is_recursive m.kind) (is_none m.owner) (nat_lt m.count 65535) c v) refl)
