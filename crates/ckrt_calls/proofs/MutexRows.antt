-- What the rows of mutexes keep.
use Rattle.std.proofs.Common.{◌≡◌, ℕ, false, Option, Some, None, List, refl, ◌||◌, ◌&&◌, not, nat_lt, nat_le}
use Rattle.ckrt_thread.specs.declared.records.Reason.TheVariants as reason
use Rattle.ckrt_thread.specs.declared.records.RetakeResult.{RetakeResult}
use Rattle.ckrt_thread.specs.Waits.{is_moment, retake_code}
use Rattle.ckrt_thread.specs.State.{State, blocked}
use Rattle.ckrt_thread.specs.Granting.{answered, grant_waiters}
use Rattle.ckrt_objects.specs.declared.address_map.Entry.{Entry}
use Rattle.ckrt_mutex.specs.declared.records.Mutex.{Mutex}
use Rattle.ckrt_mutex.specs.declared.records.Kind.{Kind}
use Rattle.ckrt_mutex.specs.Mutex.{mutex_at, is_available, is_owner, is_errorcheck, is_normal, free}
use Rattle.ckrt_mutex.specs.WellFormed.{IsWellFormedWith}
use Rattle.ckrt_mutex.specs.Rows.{After, is_full, is_busy, kind_of, taken, taken_or, waiting, waiting_until, lock_row, timedlock_row, trylock_row, mutex_rule, unlock_of, unlock_row, retake_of, retake_row, destroy_row, init_kind, init_row}
use Rattle.ckrt_mutex.proofs.WellFormed.{well_formed_same, well_formed_unwaited, well_formed_unnamed}
use Rattle.ckrt_cond.specs.WellFormed as conditions
use Rattle.ckrt_cond.proofs.Waits.{conditions_fewer, conditions_unwaited, conditions_other}
use Rattle.ckrt_calls.proofs.Choices.{choice, choice_else}
use Rattle.ckrt_calls.proofs.ThreadRows.{IsWaitRule, kept_granted}

-- WHAT HOLDS OF THE THREADS before a row holds after it, where the wait that the row may begin or end keeps it

module _ (P : State → Type 0) where
  abbrev Holds : After → Type 0
  Holds r = P r.threads

  kept_taken : (m : Mutex) (t a : ℕ) (s : State) (ms : List (Entry Mutex)) → P s → Holds (taken m t a s ms)
  kept_taken m t a s ms h = choice Holds (nat_le 65535 m.count || is_full a s ms) _ _ h h

  kept_taken_or : (wait : After) (m : Mutex) (t a : ℕ) (s : State) (ms : List (Entry Mutex)) → Holds wait → P s → Holds (taken_or wait m t a s ms)
  kept_taken_or wait m t a s ms w h = choice Holds (is_available t m) _ _ (kept_taken m t a s ms h) (choice Holds (is_owner t m && is_errorcheck m.kind) _ _ h w)

  pub kept_lock : (t a : ℕ) (s : State) (ms : List (Entry Mutex)) → P (blocked t (reason.Lock a) None s) → P s → Holds (lock_row t a s ms)
  kept_lock t a s ms w h = kept_taken_or (waiting t a None s ms) (mutex_at a ms) t a s ms w h

  -- a deadline lies ahead of the clock
  pub kept_timedlock : (t a moment clock : ℕ) (s : State) (ms : List (Entry Mutex)) → (nat_le moment clock ≡ false → P (blocked t (reason.Lock a) (Some moment) s)) → P s → Holds (timedlock_row t a moment clock s ms)
  kept_timedlock t a moment clock s ms w h =
      kept_taken_or (waiting_until t a moment clock s ms) (mutex_at a ms) t a s ms (choice Holds (not (is_moment moment)) _ _ h (choice_else Holds (nat_le moment clock) _ _ h w)) h

  pub kept_trylock : (t a : ℕ) (s : State) (ms : List (Entry Mutex)) → P s → Holds (trylock_row t a s ms)
  kept_trylock t a s ms h = choice Holds (is_available t (mutex_at a ms)) _ _ (kept_taken (mutex_at a ms) t a s ms h) h

  -- a mutex that is given up is granted
  kept_unlock_of : (m : Mutex) (t a : ℕ) (s : State) (ms : List (Entry Mutex)) → P (grant_waiters (mutex_rule a) (free m.kind) s).1 → P s → Holds (unlock_of m t a s ms)
  kept_unlock_of m t a s ms g h = choice Holds (not (is_owner t m)) _ _ h (choice Holds (nat_lt 1 m.count) _ _ h g)

  pub kept_unlock : (t a : ℕ) (s : State) (ms : List (Entry Mutex)) → ((k : Kind) → P (grant_waiters (mutex_rule a) (free k) s).1) → P s → Holds (unlock_row t a s ms)
  kept_unlock t a s ms grants h = kept_unlock_of (mutex_at a ms) t a s ms (grants (mutex_at a ms).kind) h

  kept_retake_of : (m : Mutex) (t a : ℕ) (r : RetakeResult) (s : State) (ms : List (Entry Mutex)) → P (answered (retake_code r) t s) → P (blocked t (reason.Retake a r) None s) → Holds (retake_of m t a r s ms)
  kept_retake_of m t a r s ms h w = choice Holds (is_available t m) _ _ h w

  pub kept_retake : (t a : ℕ) (r : RetakeResult) (s : State) (ms : List (Entry Mutex)) → P (answered (retake_code r) t s) → P (blocked t (reason.Retake a r) None s) → Holds (retake_row t a r s ms)
  kept_retake t a r s ms h w = kept_retake_of (mutex_at a ms) t a r s ms h w

  pub kept_destroy : (a : ℕ) (s : State) (ms : List (Entry Mutex)) → P s → Holds (destroy_row a s ms)
  kept_destroy a s ms h = choice Holds (is_busy a s ms) _ _ h h

  kept_init_kind : (o : Option Kind) (a : ℕ) (s : State) (ms : List (Entry Mutex)) → P s → Holds (init_kind o a s ms)
  kept_init_kind None a s ms h = h
  kept_init_kind (Some k) a s ms h = choice Holds (is_busy a s ms) _ _ h (choice Holds (not (is_normal k) && is_full a s ms) _ _ h h)

  pub kept_init : (a k : ℕ) (s : State) (ms : List (Entry Mutex)) → P s → Holds (init_row a k s ms)
  kept_init a k s ms h = kept_init_kind (kind_of k) a s ms h

-- THE RULES OF WAITS

-- an unlock keeps each
pub unlock_rule : {P : State → Type 0} → IsWaitRule P → (t a : ℕ) (s : State) (ms : List (Entry Mutex)) → P s → P (unlock_row t a s ms).threads
unlock_rule {P = P} rule t a s ms h = kept_unlock P t a s ms (λ k. kept_granted rule (mutex_rule a) (free k) s h) h

-- one for conditions
pub condition_rule : IsWaitRule conditions.IsWellFormed
condition_rule = record {
  same_waits = λ s z e h. conditions_fewer s z (λ f x. rw e at x) h;
  unwaited = λ t s z e h. conditions_unwaited t s z e h;
  joining = λ t id s h. conditions_other t (reason.Join id) None s (λ c a. refl) h;
}

-- and one for mutexes
pub wait_rule : (ms : List (Entry Mutex)) → IsWaitRule (λ s. IsWellFormedWith s ms)
wait_rule ms = record {
  same_waits = λ s z e h. well_formed_same s z ms e h;
  unwaited = λ t s z e h. well_formed_unwaited t s z ms e h;
  joining = λ t id s h. well_formed_unnamed (reason.Join id) t None s ms refl h;
}
