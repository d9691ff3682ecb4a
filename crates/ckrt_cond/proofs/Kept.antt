-- Each row keeps threads, mutexes and waits at conditions well-formed together.
use Rattle.std.proofs.Common.{◌≡◌, ℕ, ◌<◌, ◌≤◌, nat_le, not, true, false, List, [], ◌∷◌, ◌++◌, take, drop, Option, Some, None, refl, sym, ap, subst, ◌∙◌, arith}
use Rattle.std.proofs.lemmas.Bool.Decides.{nat_tests}
use Rattle.ckrt_thread.specs.declared.records.Wait.{Wait}
use Rattle.ckrt_thread.specs.declared.records.Reason.{Reason}
use Rattle.ckrt_thread.specs.declared.records.Reason.TheVariants as reason
use Rattle.ckrt_thread.specs.declared.records.Object.TheVariants as object
use Rattle.ckrt_thread.specs.declared.records.RetakeResult.{RetakeResult}
use Rattle.ckrt_thread.specs.declared.records.RetakeResult.TheVariants as retake
use Rattle.ckrt_thread.specs.declared.records.CallResult.TheVariants.{Done}
use Rattle.ckrt_thread.specs.Waits.{is_for, is_moment}
use Rattle.ckrt_thread.specs.State as threads
use Rattle.ckrt_thread.specs.State.{State, is_live, is_waiting, first_waiter, unwaited, blocked}
use Rattle.ckrt_thread.proofs.Known.{live_range}
use Rattle.ckrt_thread.proofs.Changes.{well_formed_without}
use Rattle.ckrt_objects.specs.declared.address_map.Entry.{Entry}
use Rattle.ckrt_mutex.specs.declared.records.Mutex.{Mutex}
use Rattle.ckrt_mutex.specs.Rows.{After, unchanged, unlock_row, retake_row}
use Rattle.ckrt_mutex.specs.WellFormed.{IsWellFormedWith}
use Rattle.ckrt_objects.proofs.Waits.{either, any_among, queue_last}
use Rattle.ckrt_mutex.proofs.Rows.{well_formed_unlock, well_formed_retake}
use Rattle.ckrt_mutex.proofs.WellFormed.{well_formed_blocked, well_formed_unwaited}
use Rattle.ckrt_mutex.proofs.ThreadsKept.{live_unlock, free_unlock}
use Rattle.ckrt_cond.specs.Rows.{waiters, has_waiters, init_row, destroy_row, wait_refusal, released_then, waiting_at, wait_row, timedwait_row, resume_row, woken_from, all_woken, signal_row, broadcast_row}
use Rattle.ckrt_cond.specs.WellFormed.{IsWellFormed, HasReleased, may_resume}
use Rattle.ckrt_cond.proofs.Waits.{conditions_fewer, conditions_waiting}
use Rattle.ckrt_cond.proofs.Released.{may_begin, release_among, release_room, release_count, release_other}
use Rattle.ckrt_cond.proofs.Rows.{conditions_retake, conditions_resume, resume_live, resume_free, resume_room, resume_count, first_may_resume, is_first_condition, first_is}
use Rattle.ckrt_cond.proofs.ThreadsKept.{next_woken}

pub record IsKept (r : After) : Type 0 where
  pub mutexes : IsWellFormedWith r.threads r.mutexes
  pub conditions : IsWellFormed r.threads

kept : (s : State) (ms : List (Entry Mutex)) → IsWellFormedWith s ms → IsWellFormed s → {v : ℕ} → IsKept (unchanged (Done v) s ms)
kept s ms h g = record { mutexes = h; conditions = g }

-- INIT AND DESTROY

pub well_formed_init : (c : ℕ) (s : State) (ms : List (Entry Mutex)) → IsWellFormedWith s ms → IsWellFormed s → IsKept (init_row c s ms)
well_formed_init c s ms h g = either IsKept (has_waiters c s) _ _ (λ _. kept s ms h g) (λ _. kept s ms h g)

pub well_formed_destroy : (c : ℕ) (s : State) (ms : List (Entry Mutex)) → IsWellFormedWith s ms → IsWellFormed s → IsKept (destroy_row c s ms)
well_formed_destroy c s ms h g = either IsKept (has_waiters c s) _ _ (λ _. kept s ms h g) (λ _. kept s ms h g)

-- WAIT AND TIMEDWAIT

pub well_formed_waiting : (t c a : ℕ) (d : Option ℕ) (s : State) (ms : List (Entry Mutex)) → HasReleased t c a s ms → IsKept (waiting_at t c a d s ms)
well_formed_waiting t c a d s ms r = record {
  mutexes = well_formed_blocked (reason.Condition c a) t d s ms a refl r.room r.mutexes refl refl refl r.count;
  conditions = conditions_waiting t c a d s r.other r.conditions;
}

pub well_formed_retaking : (t c a : ℕ) (s : State) (ms : List (Entry Mutex)) → (0 < t) × (t ≤ 64) → HasReleased t c a s ms → IsKept (retake_row t a retake.TimedOut s ms)
well_formed_retaking t c a s ms id r = record {
  mutexes = well_formed_retake t a retake.TimedOut s ms r.mutexes id r.free r.room r.count;
  conditions = conditions_retake t a retake.TimedOut s ms r.conditions;
}

module _ (t c a : ℕ) (s : State) (ms : List (Entry Mutex)) (k : threads.IsWellFormed s) (l : is_live s t ≡ true) (n : is_waiting s t ≡ false) (h : IsWellFormedWith s ms) (g : IsWellFormed s) where
  pub after_release : wait_refusal t c a s ms ≡ None → HasReleased t c a (unlock_row t a s ms).threads (unlock_row t a s ms).mutexes
  after_release e =
      let o = may_begin t c a s ms e in
      record {
        live = live_unlock t t a s ms l n;
        free = free_unlock t t a s ms n;
        room = release_room t a s ms o.0 h;
        count = release_count t a s ms o.0 h k n;
        other = release_other t c a s ms e;
        mutexes = well_formed_unlock t a s ms k h;
        conditions = conditions_fewer s (unlock_row t a s ms).threads (any_among (unlock_row t a s ms).threads.waits s.waits (release_among t a s ms o.0)) g;
      }

  released_by : (next : State → List (Entry Mutex) → After) (o : Option ℕ) → wait_refusal t c a s ms ≡ o → ((z : State) (ns : List (Entry Mutex)) → HasReleased t c a z ns → IsKept (next z ns)) → IsKept (released_then next o t a s ms)
  released_by next (Some v) e more = record { mutexes = h; conditions = g }
  released_by next None e more = more (unlock_row t a s ms).threads (unlock_row t a s ms).mutexes (after_release e)

  pub well_formed_wait : IsKept (wait_row t c a s ms)
  well_formed_wait = released_by (waiting_at t c a None) (wait_refusal t c a s ms) refl (λ z ns r. well_formed_waiting t c a None z ns r)

  pub well_formed_timedwait : (d clock : ℕ) → IsKept (timedwait_row t c a d clock s ms)
  well_formed_timedwait d clock =
      either IsKept (not (is_moment d)) _ _ (λ _. kept s ms h g) (λ _.
      either IsKept (nat_le d clock) _ _
      (λ _. released_by (retake_row t a retake.TimedOut) (wait_refusal t c a s ms) refl (λ z ns r. well_formed_retaking t c a z ns (live_range s t k l) r))
      (λ _. released_by (waiting_at t c a (Some d)) (wait_refusal t c a s ms) refl (λ z ns r. well_formed_waiting t c a (Some d) z ns r)))

-- a thread that began to wait is the last of the queue
pub queue_waiting : (t c a : ℕ) (d : Option ℕ) (s z : State) → waiters c z ≡ waiters c s → waiters c (blocked t (reason.Condition c a) d z) ≡ waiters c s ++ (record { thread = t; reason = reason.Condition c a; deadline = d }) ∷ []
queue_waiting t c a d s z e = queue_last (is_for (object.Condition c)) z.waits (record { thread = t; reason = reason.Condition c a; deadline = d }) (grind (arith, nat_tests)) ∙ ap (λ l. l ++ (record { thread = t; reason = reason.Condition c a; deadline = d }) ∷ []) e

-- SIGNAL AND BROADCAST

pub well_formed_resume : (t a : ℕ) (r : RetakeResult) (s : State) (ms : List (Entry Mutex)) → threads.IsWellFormed s → IsWellFormedWith s ms → IsWellFormed s → may_resume t a s ≡ true → IsKept (resume_row t a r s ms)
well_formed_resume t a r s ms k h g may =
    let z = unwaited t s in
    let id = live_range z t (well_formed_without s t k) (resume_live t a s may k) in
    record {
      mutexes = well_formed_retake t a r z ms (well_formed_unwaited t s z ms refl h) id (resume_free t s k) (resume_room t a s may ms h) (resume_count t a s may ms h);
      conditions = conditions_resume t a r s ms g;
    }

module _ (c : ℕ) (s : State) (ms : List (Entry Mutex)) (w : Wait) (k : threads.IsWellFormed s) (h : IsWellFormedWith s ms) (g : IsWellFormed s) (e : first_waiter (object.Condition c) s ≡ Some w) where
  woken_with : (a : ℕ) → w.reason ≡ reason.Condition c a → IsKept (woken_from w.reason w.thread s ms)
  woken_with a i =
      subst (λ r. IsKept (woken_from r w.thread s ms)) (sym i) (well_formed_resume w.thread a retake.Done s ms k h g (first_may_resume c c a s w e i))

  pub woken : IsKept (woken_from w.reason w.thread s ms)
  woken = (let i = is_first_condition c s w e in woken_with i.0 i.1)

all_kept : (c : ℕ) (ws : List Wait) (s : State) (ms : List (Entry Mutex)) → waiters c s ≡ ws → threads.IsWellFormed s → IsWellFormedWith s ms → IsWellFormed s → IsKept (all_woken ws s ms)
all_kept c [] s ms e k h g = record { mutexes = h; conditions = g }
all_kept c (w ∷ ws) s ms e k h g =
    let r = woken_from w.reason w.thread s ms in
    let first = first_is c s w ws e in
    let next = next_woken c s ms w k first in
    let i = woken c s ms w k h g first in
    all_kept c ws r.threads r.mutexes (ap (λ l. drop 1 l) (sym next.queue ∙ e)) next.threads i.mutexes i.conditions

pub well_formed_broadcast : (c : ℕ) (s : State) (ms : List (Entry Mutex)) → threads.IsWellFormed s → IsWellFormedWith s ms → IsWellFormed s → IsKept (broadcast_row c s ms)
well_formed_broadcast c s ms k h g = all_kept c (waiters c s) s ms refl k h g

one_kept : (c : ℕ) (ws : List Wait) (s : State) (ms : List (Entry Mutex)) → waiters c s ≡ ws → threads.IsWellFormed s → IsWellFormedWith s ms → IsWellFormed s → IsKept (all_woken (take 1 ws) s ms)
one_kept c [] s ms e k h g = record { mutexes = h; conditions = g }
one_kept c (w ∷ ws) s ms e k h g = (let i = woken c s ms w k h g (first_is c s w ws e) in record { mutexes = i.mutexes; conditions = i.conditions })

pub well_formed_signal : (c : ℕ) (s : State) (ms : List (Entry Mutex)) → threads.IsWellFormed s → IsWellFormedWith s ms → IsWellFormed s → IsKept (signal_row c s ms)
well_formed_signal c s ms k h g = one_kept c (waiters c s) s ms refl k h g

-- WHAT HOLDS OF THE THREADS before a row holds after it, where what the row is made of keeps it

module _ (P : State → Type 0) where
  kept_released : (next : State → List (Entry Mutex) → After) (o : Option ℕ) (t a : ℕ) (s : State) (ms : List (Entry Mutex)) → P s → P (unlock_row t a s ms).threads
      → ((z : State) (ns : List (Entry Mutex)) → P z → P (next z ns).threads) → P (released_then next o t a s ms).threads
  kept_released next (Some v) t a s ms h u more = h
  kept_released next None t a s ms h u more = more (unlock_row t a s ms).threads (unlock_row t a s ms).mutexes u

  pub kept_wait : (t c a : ℕ) (s : State) (ms : List (Entry Mutex)) → ((z : State) → P z → P (blocked t (reason.Condition c a) None z)) → P (unlock_row t a s ms).threads → P s → P (wait_row t c a s ms).threads
  kept_wait t c a s ms waits u h = kept_released (waiting_at t c a None) (wait_refusal t c a s ms) t a s ms h u (λ z _ i. waits z i)

  -- a deadline lies ahead of the clock
  pub kept_timedwait : (t c a d clock : ℕ) (s : State) (ms : List (Entry Mutex)) → (nat_le d clock ≡ false → (z : State) → P z → P (blocked t (reason.Condition c a) (Some d) z))
      → ((z : State) (ns : List (Entry Mutex)) → P z → P (retake_row t a retake.TimedOut z ns).threads) → P (unlock_row t a s ms).threads → P s → P (timedwait_row t c a d clock s ms).threads
  kept_timedwait t c a d clock s ms waits retakes u h =
      either {X = After} (λ x. P x.threads) (not (is_moment d)) _ _ (λ _. h) (λ _.
      either {X = After} (λ x. P x.threads) (nat_le d clock) _ _
      (λ _. kept_released (retake_row t a retake.TimedOut) (wait_refusal t c a s ms) t a s ms h u retakes)
      (λ l. kept_released (waiting_at t c a (Some d)) (wait_refusal t c a s ms) t a s ms h u (λ z _ i. waits l z i)))

  module _ (resumes : (t a : ℕ) (z : State) (ns : List (Entry Mutex)) → P z → P (resume_row t a retake.Done z ns).threads) where
    kept_woken : (r : Reason) (t : ℕ) (s : State) (ms : List (Entry Mutex)) → P s → P (woken_from r t s ms).threads
    kept_woken (reason.Condition c a) t s ms h = resumes t a s ms h
    kept_woken reason.Input t s ms h = h
    kept_woken reason.Sleep t s ms h = h
    kept_woken (reason.Join i) t s ms h = h
    kept_woken (reason.Lock m) t s ms h = h
    kept_woken (reason.Retake m v) t s ms h = h
    kept_woken (reason.Barrier e) t s ms h = h
    kept_woken (reason.Read l) t s ms h = h
    kept_woken (reason.Write l) t s ms h = h

    kept_all_woken : (ws : List Wait) (s : State) (ms : List (Entry Mutex)) → P s → P (all_woken ws s ms).threads
    kept_all_woken [] s ms h = h
    kept_all_woken (w ∷ ws) s ms h = kept_all_woken ws _ _ (kept_woken w.reason w.thread s ms h)

    pub kept_signal : (c : ℕ) (s : State) (ms : List (Entry Mutex)) → P s → P (signal_row c s ms).threads
    kept_signal c s ms h = kept_all_woken (take 1 (waiters c s)) s ms h

    pub kept_broadcast : (c : ℕ) (s : State) (ms : List (Entry Mutex)) → P s → P (broadcast_row c s ms).threads
    kept_broadcast c s ms h = kept_all_woken (waiters c s) s ms h

  pub kept_init : (c : ℕ) (s : State) (ms : List (Entry Mutex)) → P s → P (init_row c s ms).threads
  kept_init c s ms h = either {X = After} (λ x. P x.threads) (has_waiters c s) _ _ (λ _. h) (λ _. h)

  pub kept_destroy : (c : ℕ) (s : State) (ms : List (Entry Mutex)) → P s → P (destroy_row c s ms).threads
  kept_destroy c s ms h = either {X = After} (λ x. P x.threads) (has_waiters c s) _ _ (λ _. h) (λ _. h)
