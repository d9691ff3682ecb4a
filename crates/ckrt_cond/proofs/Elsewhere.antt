-- What the calls on conditions leave of the queues of other objects.
use Rattle.std.proofs.Common.{◌≡◌, ℕ, Bool, true, false, List, [], ◌∷◌, take, drop, Some, None, refl, sym, ap, subst, ◌∙◌}
use Rattle.std.specs.List.{find, filter}
use Rattle.ckrt_thread.specs.declared.records.Wait.{Wait}
use Rattle.ckrt_thread.specs.declared.records.Reason.TheVariants as reason
use Rattle.ckrt_thread.specs.declared.records.Object.TheVariants as object
use Rattle.ckrt_thread.specs.declared.records.RetakeResult.{RetakeResult}
use Rattle.ckrt_thread.specs.declared.records.RetakeResult.TheVariants as retake
use Rattle.ckrt_thread.specs.Waits.{is_for}
use Rattle.ckrt_thread.specs.State as threads
use Rattle.ckrt_thread.specs.State.{State, first_waiter, unwaited}
use Rattle.ckrt_thread.proofs.Changes.{well_formed_without}
use Rattle.ckrt_thread.proofs.Known.{waits_at_most_once}
use Rattle.ckrt_objects.specs.declared.address_map.Entry.{Entry}
use Rattle.ckrt_objects.proofs.Obtained.{PassesNoJoiner}
use Rattle.ckrt_objects.proofs.Waits.{found_holds, queue_elsewhere}
use Rattle.ckrt_mutex.specs.declared.records.Mutex.{Mutex}
use Rattle.ckrt_cond.specs.Rows.{waiters, resume_row, woken_from, all_woken, signal_row, broadcast_row}
use Rattle.ckrt_cond.proofs.Rows.{retake_elsewhere, is_first_condition, first_is}
use Rattle.ckrt_cond.proofs.ThreadsKept.{next_woken}

-- the waits that pass p are for neither a condition, nor a mutex after one, nor the end of a thread
module _ (p : Wait → Bool) (at_condition : (c : ℕ) (w : Wait) → is_for (object.Condition c) w ≡ true → p w ≡ false)
    (retaking : (t a : ℕ) (r : RetakeResult) → p (record { thread = t; reason = reason.Retake a r; deadline = None }) ≡ false) (joins : PassesNoJoiner p) where
  -- a wait that was found, and does not pass, ends
  pub resume_elsewhere : (q : Wait → Bool) (w : Wait) (a : ℕ) (r : RetakeResult) (s : State) (ms : List (Entry Mutex)) → threads.IsWellFormed s → find q s.waits ≡ Some w → p w ≡ false
      → filter p (resume_row w.thread a r s ms).threads.waits ≡ filter p s.waits
  resume_elsewhere q w a r s ms k e n =
      retake_elsewhere p retaking joins w.thread a r (unwaited w.thread s) ms (well_formed_without s w.thread k) ∙ queue_elsewhere q p s.waits w e n (waits_at_most_once s w.thread k)

  woken_elsewhere : (c : ℕ) (w : Wait) (s : State) (ms : List (Entry Mutex)) → threads.IsWellFormed s → first_waiter (object.Condition c) s ≡ Some w
      → filter p (woken_from w.reason w.thread s ms).threads.waits ≡ filter p s.waits
  woken_elsewhere c w s ms k e =
      let i = is_first_condition c s w e in
      let n = at_condition c w (found_holds (is_for (object.Condition c)) s.waits w e) in
      subst (λ r. filter p (woken_from r w.thread s ms).threads.waits ≡ filter p s.waits) (sym i.1) (resume_elsewhere (is_for (object.Condition c)) w i.0 retake.Done s ms k e n)

  all_elsewhere : (c : ℕ) (ws : List Wait) (s : State) (ms : List (Entry Mutex)) → waiters c s ≡ ws → threads.IsWellFormed s → filter p (all_woken ws s ms).threads.waits ≡ filter p s.waits
  all_elsewhere c [] s ms e k = refl
  all_elsewhere c (w ∷ ws) s ms e k =
      let r = woken_from w.reason w.thread s ms in
      let first = first_is c s w ws e in
      let i = next_woken c s ms w k first in
      all_elsewhere c ws r.threads r.mutexes (ap (λ l. drop 1 l) (sym i.queue ∙ e)) i.threads ∙ woken_elsewhere c w s ms k first

  pub broadcast_elsewhere : (c : ℕ) (s : State) (ms : List (Entry Mutex)) → threads.IsWellFormed s → filter p (broadcast_row c s ms).threads.waits ≡ filter p s.waits
  broadcast_elsewhere c s ms k = all_elsewhere c (waiters c s) s ms refl k

  one_elsewhere : (c : ℕ) (ws : List Wait) (s : State) (ms : List (Entry Mutex)) → waiters c s ≡ ws → threads.IsWellFormed s → filter p (all_woken (take 1 ws) s ms).threads.waits ≡ filter p s.waits
  one_elsewhere c [] s ms e k = refl
  one_elsewhere c (w ∷ ws) s ms e k = woken_elsewhere c w s ms k (first_is c s w ws e)

  pub signal_elsewhere : (c : ℕ) (s : State) (ms : List (Entry Mutex)) → threads.IsWellFormed s → filter p (signal_row c s ms).threads.waits ≡ filter p s.waits
  signal_elsewhere c s ms k = one_elsewhere c (waiters c s) s ms refl k
