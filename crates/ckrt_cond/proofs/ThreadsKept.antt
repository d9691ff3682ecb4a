-- Each row keeps the threads well-formed.
use Rattle.std.proofs.Common.{◌≡◌, ℕ, nat_le, Bool, true, false, not, List, [], ◌∷◌, take, drop, Option, Some, None, refl, sym, ap, subst, ◌∙◌}
use Rattle.ckrt_thread.specs.declared.records.Wait.{Wait}
use Rattle.ckrt_thread.specs.declared.records.Reason.TheVariants as reason
use Rattle.ckrt_thread.specs.declared.records.Object.TheVariants as object
use Rattle.ckrt_thread.specs.declared.records.RetakeResult.{RetakeResult}
use Rattle.ckrt_thread.specs.declared.records.RetakeResult.TheVariants as retake
use Rattle.ckrt_thread.specs.Waits.{is_moment, is_moment_or_none}
use Rattle.ckrt_thread.specs.State.{State, IsWellFormed, is_live, is_waiting, may_wait, may_unwind, first_waiter, unwaited}
use Rattle.ckrt_thread.proofs.Changes.{well_formed_blocked, well_formed_without}
use Rattle.ckrt_objects.specs.declared.address_map.Entry.{Entry}
use Rattle.ckrt_objects.proofs.Waits.{either}
use Rattle.ckrt_mutex.specs.declared.records.Mutex.{Mutex}
use Rattle.ckrt_mutex.specs.Rows.{After, unlock_row, retake_row}
use Rattle.ckrt_mutex.proofs.ThreadsKept.{threads_unlock, live_unlock, free_unlock, threads_retake}
use Rattle.ckrt_cond.specs.Rows.{waiters, has_waiters, init_row, destroy_row, wait_refusal, released_then, waiting_at, wait_row, timedwait_row, resume_row, woken_from, all_woken, signal_row, broadcast_row}
use Rattle.ckrt_cond.specs.WellFormed.{may_resume}
use Rattle.ckrt_cond.proofs.Rows.{resume_live, resume_free, first_may_resume, is_first_condition, first_is, queue_resumed}

abbrev IsKept : After → Type 0
IsKept r = IsWellFormed r.threads

-- INIT AND DESTROY

pub threads_init : (c : ℕ) (s : State) (ms : List (Entry Mutex)) → IsWellFormed s → IsKept (init_row c s ms)
threads_init c s ms k = either IsKept (has_waiters c s) _ _ (λ _. k) (λ _. k)

pub threads_destroy : (c : ℕ) (s : State) (ms : List (Entry Mutex)) → IsWellFormed s → IsKept (destroy_row c s ms)
threads_destroy c s ms k = either IsKept (has_waiters c s) _ _ (λ _. k) (λ _. k)

-- WAIT AND TIMEDWAIT

not_not : (b : Bool) → not b ≡ false → b ≡ true
not_not true h = refl
not_not false h = absurd (cc)

allowed_until : (t c a : ℕ) (d : Option ℕ) (s : State) → is_moment_or_none d ≡ true → may_wait t (reason.Condition c a) d s ≡ true
allowed_until t c a d s e = rw e refl

module _ (t c a : ℕ) (s : State) (ms : List (Entry Mutex)) (k : IsWellFormed s) (live : is_live s t ≡ true) (idle : is_waiting s t ≡ false) where
  -- the thread lives after the release and does not wait
  after_release : (next : State → List (Entry Mutex) → After) (o : Option ℕ)
      → ((z : State) (ns : List (Entry Mutex)) → IsWellFormed z → is_live z t ≡ true → is_waiting z t ≡ false → IsKept (next z ns)) → IsKept (released_then next o t a s ms)
  after_release next (Some v) more = k
  after_release next None more =
      more (unlock_row t a s ms).threads (unlock_row t a s ms).mutexes (threads_unlock t a s ms k) (live_unlock t t a s ms live idle) (free_unlock t t a s ms idle)

  waiting_until : (d : Option ℕ) → is_moment_or_none d ≡ true → IsKept (released_then (waiting_at t c a d) (wait_refusal t c a s ms) t a s ms)
  waiting_until d e = after_release (waiting_at t c a d) (wait_refusal t c a s ms) (λ z ns w l n. well_formed_blocked z t (reason.Condition c a) d w l n (allowed_until t c a d z e))

  pub threads_wait : IsKept (wait_row t c a s ms)
  threads_wait = waiting_until None refl

  pub threads_timedwait : (d clock : ℕ) → IsKept (timedwait_row t c a d clock s ms)
  threads_timedwait d clock =
      either IsKept (not (is_moment d)) _ _ (λ _. k) (λ e.
      either IsKept (nat_le d clock) _ _
      (λ _. after_release (retake_row t a retake.TimedOut) (wait_refusal t c a s ms) (λ z ns w l n. threads_retake t a retake.TimedOut z ns w l n refl))
      (λ _. waiting_until (Some d) (not_not (is_moment d) e)))

-- SIGNAL AND BROADCAST

pub threads_resume : (t a : ℕ) (r : RetakeResult) (s : State) (ms : List (Entry Mutex)) → IsWellFormed s → may_resume t a s ≡ true → may_unwind t (reason.Retake a r) s ≡ true
    → IsKept (resume_row t a r s ms)
threads_resume t a r s ms k may unwinds = threads_retake t a r (unwaited t s) ms (well_formed_without s t k) (resume_live t a s may k) (resume_free t s k) unwinds

-- the first waiter is woken, and the others wait still
pub record IsNext (c : ℕ) (s : State) (w : Wait) (r : After) : Type 0 where
  pub threads : IsWellFormed r.threads
  pub queue : waiters c s ≡ w ∷ waiters c r.threads

module _ (c : ℕ) (s : State) (ms : List (Entry Mutex)) (w : Wait) (k : IsWellFormed s) (e : first_waiter (object.Condition c) s ≡ Some w) where
  next_with : (a : ℕ) → w.reason ≡ reason.Condition c a → IsNext c s w (woken_from w.reason w.thread s ms)
  next_with a i =
      subst (λ r. IsNext c s w (woken_from r w.thread s ms)) (sym i)
      (record { threads = threads_resume w.thread a retake.Done s ms k (first_may_resume c c a s w e i) refl; queue = queue_resumed c a s ms w k e })

  pub next_woken : IsNext c s w (woken_from w.reason w.thread s ms)
  next_woken = (let i = is_first_condition c s w e in next_with i.0 i.1)

threads_all : (c : ℕ) (ws : List Wait) (s : State) (ms : List (Entry Mutex)) → waiters c s ≡ ws → IsWellFormed s → IsKept (all_woken ws s ms)
threads_all c [] s ms e k = k
threads_all c (w ∷ ws) s ms e k =
    let r = woken_from w.reason w.thread s ms in
    let i = next_woken c s ms w k (first_is c s w ws e) in
    threads_all c ws r.threads r.mutexes (ap (λ l. drop 1 l) (sym i.queue ∙ e)) i.threads

pub threads_broadcast : (c : ℕ) (s : State) (ms : List (Entry Mutex)) → IsWellFormed s → IsKept (broadcast_row c s ms)
threads_broadcast c s ms k = threads_all c (waiters c s) s ms refl k

threads_one : (c : ℕ) (ws : List Wait) (s : State) (ms : List (Entry Mutex)) → waiters c s ≡ ws → IsWellFormed s → IsKept (all_woken (take 1 ws) s ms)
threads_one c [] s ms e k = k
threads_one c (w ∷ ws) s ms e k = (next_woken c s ms w k (first_is c s w ws e)).threads

pub threads_signal : (c : ℕ) (s : State) (ms : List (Entry Mutex)) → IsWellFormed s → IsKept (signal_row c s ms)
threads_signal c s ms k = threads_one c (waiters c s) s ms refl k
