-- Each row keeps the threads well-formed.
use Rattle.std.proofs.Common.{◌≡◌, ℕ, nat_lt, nat_le, eqb, Bool, true, false, ◌||◌, ◌&&◌, not, List, Option, Some, None, refl}
use Rattle.ckrt_thread.specs.declared.records.RetakeResult.{RetakeResult}
use Rattle.ckrt_thread.specs.declared.records.Reason.TheVariants as reason
use Rattle.ckrt_thread.specs.Waits.{retake_code, is_moment}
use Rattle.ckrt_thread.specs.State.{State, is_live, is_waiting, may_wait, may_unwind, IsWellFormed}
use Rattle.ckrt_thread.specs.Granting.{grant_waiters}
use Rattle.ckrt_thread.proofs.Changes.{well_formed_blocked}
use Rattle.ckrt_thread.proofs.Unwound.{well_formed_answered, live_answered}
use Rattle.ckrt_objects.specs.declared.address_map.Entry.{Entry}
use Rattle.ckrt_objects.proofs.Granting.{well_formed_granted, granted_live, granted_free}
use Rattle.ckrt_objects.proofs.Waits.{either}
use Rattle.ckrt_mutex.specs.declared.records.Kind.{Kind}
use Rattle.ckrt_mutex.specs.declared.records.Mutex.{Mutex}
use Rattle.ckrt_mutex.specs.Mutex.{free, is_owner, is_available, is_normal, is_errorcheck, mutex_at}
use Rattle.ckrt_mutex.specs.Rows.{After, is_full, is_busy, kind_of, init_kind, init_row, destroy_row, taken, taken_or, waiting, waiting_until, lock_row, timedlock_row, trylock_row, mutex_rule, unlock_row, retake_row}

abbrev IsKept : After → Type 0
IsKept r = IsWellFormed r.threads

-- INIT AND DESTROY

threads_init_kind : (k : Option Kind) (a : ℕ) (s : State) (ms : List (Entry Mutex)) → IsWellFormed s → IsKept (init_kind k a s ms)
threads_init_kind None a s ms w = w
threads_init_kind (Some k) a s ms w =
    either IsKept (is_busy a s ms) _ _ (λ _. w) (λ _. either IsKept (not (is_normal k) && is_full a s ms) _ _ (λ _. w) (λ _. w))

pub threads_init : (a kind : ℕ) (s : State) (ms : List (Entry Mutex)) → IsWellFormed s → IsKept (init_row a kind s ms)
threads_init a kind s ms w = threads_init_kind (kind_of kind) a s ms w

pub threads_destroy : (a : ℕ) (s : State) (ms : List (Entry Mutex)) → IsWellFormed s → IsKept (destroy_row a s ms)
threads_destroy a s ms w = either IsKept (is_busy a s ms) _ _ (λ _. w) (λ _. w)

-- LOCK, TIMEDLOCK AND TRYLOCK

threads_taken : (m : Mutex) (t a : ℕ) (s : State) (ms : List (Entry Mutex)) → IsWellFormed s → IsKept (taken m t a s ms)
threads_taken m t a s ms w = either IsKept (nat_le 65535 m.count || is_full a s ms) _ _ (λ _. w) (λ _. w)

threads_taken_or : (wait : After) (m : Mutex) (t a : ℕ) (s : State) (ms : List (Entry Mutex)) → IsKept wait → IsWellFormed s → IsKept (taken_or wait m t a s ms)
threads_taken_or wait m t a s ms waits w =
    either IsKept (is_available t m) _ _ (λ _. threads_taken m t a s ms w) (λ _.
    either IsKept (is_owner t m && is_errorcheck m.kind) _ _ (λ _. w) (λ _. waits))

not_not : (b : Bool) → not b ≡ false → b ≡ true
not_not true h = refl
not_not false h = absurd (cc)

allowed_until : (t a d : ℕ) (s : State) → is_moment d ≡ true → may_wait t (reason.Lock a) (Some d) s ≡ true
allowed_until t a d s e = rw e refl

module _ (t a : ℕ) (s : State) (ms : List (Entry Mutex)) (w : IsWellFormed s) (live : is_live s t ≡ true) (idle : is_waiting s t ≡ false) where
  pub threads_lock : IsKept (lock_row t a s ms)
  threads_lock = threads_taken_or (waiting t a None s ms) (mutex_at a ms) t a s ms (well_formed_blocked s t (reason.Lock a) None w live idle refl) w

  pub threads_timedlock : (moment clock : ℕ) → IsKept (timedlock_row t a moment clock s ms)
  threads_timedlock moment clock =
      threads_taken_or (waiting_until t a moment clock s ms) (mutex_at a ms) t a s ms
      (either IsKept (not (is_moment moment)) _ _ (λ _. w) (λ e.
      either IsKept (nat_le moment clock) _ _ (λ _. w) (λ _.
      well_formed_blocked s t (reason.Lock a) (Some moment) w live idle (allowed_until t a moment s (not_not (is_moment moment) e))))) w

pub threads_trylock : (t a : ℕ) (s : State) (ms : List (Entry Mutex)) → IsWellFormed s → IsKept (trylock_row t a s ms)
threads_trylock t a s ms w = either IsKept (is_available t (mutex_at a ms)) _ _ (λ _. threads_taken (mutex_at a ms) t a s ms w) (λ _. w)

-- UNLOCK

-- what the hand-over keeps, the row keeps
unlock_keeps : (P : State → Type 0) (t a : ℕ) (s : State) (ms : List (Entry Mutex)) → P s → ((m : Mutex) → P (grant_waiters (mutex_rule a) m s).1) → P (unlock_row t a s ms).threads
unlock_keeps P t a s ms h handed =
    let m = mutex_at a ms in
    either {X = After} (λ r. P r.threads) (not (is_owner t m)) _ _ (λ _. h) (λ _.
    either {X = After} (λ r. P r.threads) (nat_lt 1 m.count) _ _ (λ _. h) (λ _. handed (free m.kind)))

pub threads_unlock : (t a : ℕ) (s : State) (ms : List (Entry Mutex)) → IsWellFormed s → IsKept (unlock_row t a s ms)
threads_unlock t a s ms w = unlock_keeps IsWellFormed t a s ms w (λ m. well_formed_granted (mutex_rule a) m s w)

-- who lives and does not wait goes on, whoever gets the mutex
pub live_unlock : (q t a : ℕ) (s : State) (ms : List (Entry Mutex)) → is_live s q ≡ true → is_waiting s q ≡ false → is_live (unlock_row t a s ms).threads q ≡ true
live_unlock q t a s ms l n = unlock_keeps (λ z. is_live z q ≡ true) t a s ms l (λ m. granted_live (mutex_rule a) q m s l n)

pub free_unlock : (q t a : ℕ) (s : State) (ms : List (Entry Mutex)) → is_waiting s q ≡ false → is_waiting (unlock_row t a s ms).threads q ≡ false
free_unlock q t a s ms n = unlock_keeps (λ z. is_waiting z q ≡ false) t a s ms n (λ m. granted_free (mutex_rule a) q m s n)

-- RETAKE

pub threads_retake : (t a : ℕ) (r : RetakeResult) (s : State) (ms : List (Entry Mutex)) → IsWellFormed s → is_live s t ≡ true → is_waiting s t ≡ false → may_unwind t (reason.Retake a r) s ≡ true
    → IsKept (retake_row t a r s ms)
threads_retake t a r s ms w live idle unwinds =
    either IsKept (is_available t (mutex_at a ms)) _ _
    (λ _. well_formed_answered t s w live idle (retake_code r))
    (λ _. well_formed_blocked s t (reason.Retake a r) None w live idle unwinds)

-- the other threads live on
pub live_retake : (q t a : ℕ) (r : RetakeResult) (s : State) (ms : List (Entry Mutex)) → eqb t q ≡ false → is_live s q ≡ true → is_live (retake_row t a r s ms).threads q ≡ true
live_retake q t a r s ms other l =
    either {X = After} (λ x. is_live x.threads q ≡ true) (is_available t (mutex_at a ms)) _ _ (λ _. live_answered q (retake_code r) t s other l) (λ _. l)
