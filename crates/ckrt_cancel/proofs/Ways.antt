-- The ways that a request may go.
use Rattle.std.proofs.Common.{◌≡◌, ℕ, Bool, true, false, Option, Some, None, List, refl, ap}
use Rattle.std.specs.List.{find}
use Rattle.ckrt_thread.specs.declared.records.Thread.{Thread}
use Rattle.ckrt_thread.specs.declared.records.Thread.TheVariants as thread
use Rattle.ckrt_thread.specs.declared.records.Wait.{Wait}
use Rattle.ckrt_thread.specs.declared.records.Reason.{Reason}
use Rattle.ckrt_thread.specs.declared.records.Reason.TheVariants as reason
use Rattle.ckrt_thread.specs.declared.records.CallResult.TheVariants.{Done}
use Rattle.ckrt_thread.specs.Errors.{ESRCH}
use Rattle.ckrt_thread.specs.Waits.{is_of}
use Rattle.ckrt_thread.specs.State.{State, thread_of, is_live, is_live_thread}
use Rattle.ckrt_objects.specs.declared.address_map.Entry.{Entry}
use Rattle.ckrt_objects.proofs.Waits.{either}
use Rattle.ckrt_mutex.specs.declared.records.Mutex.{Mutex}
use Rattle.ckrt_mutex.specs.Rows.{After, unchanged}
use Rattle.ckrt_cancel.specs.Rows.{left_pending, interrupted, interrupted_at_condition, request_while, request_in, request_for, request_row}

-- whether a request ends a wait for this reason, and the thread goes to its next handler at once
abbrev pub is_cut_short : Reason → Bool
is_cut_short reason.Input = true
is_cut_short reason.Sleep = true
is_cut_short (reason.Join q) = true
is_cut_short _ = false

-- P holds of each way that a request for the thread t may go
pub record Ways (P : After → Type 0) (t : ℕ) (s : State) (ms : List (Entry Mutex)) : Type 0 where
  pub unknown : P (unchanged (Done ESRCH) s ms)
  pub ended : P (unchanged (Done 0) s ms)
  pub later : is_live s t ≡ true → P (left_pending t s ms)
  pub now : (w : Wait) → find (is_of t) s.waits ≡ Some w → is_cut_short w.reason ≡ true → P (interrupted t s ms)
  pub at_condition : (c a : ℕ) (w : Wait) → find (is_of t) s.waits ≡ Some w → w.reason ≡ reason.Condition c a → P (interrupted_at_condition a t s ms)

module _ (P : After → Type 0) (t : ℕ) (s : State) (ms : List (Entry Mutex)) (ways : Ways P t s ms) where
  ways_while : (r : Reason) (w : Wait) → find (is_of t) s.waits ≡ Some w → w.reason ≡ r → is_live s t ≡ true → P (request_while r t s ms)
  ways_while reason.Input w e i l = ways.now w e (rw i refl)
  ways_while reason.Sleep w e i l = ways.now w e (rw i refl)
  ways_while (reason.Join q) w e i l = ways.now w e (rw i refl)
  ways_while (reason.Condition c a) w e i l = ways.at_condition c a w e i
  ways_while (reason.Lock a) w e i l = ways.later l
  ways_while (reason.Retake a v) w e i l = ways.later l
  ways_while (reason.Barrier b) w e i l = ways.later l
  ways_while (reason.Read a) w e i l = ways.later l
  ways_while (reason.Write a) w e i l = ways.later l

  ways_in : (o : Option Wait) → find (is_of t) s.waits ≡ o → is_live s t ≡ true → P (request_in o t s ms)
  ways_in None e l = ways.later l
  ways_in (Some w) e l = ways_while w.reason w e refl l

  ways_for : (o : Option Thread) → thread_of s t ≡ o → P (request_for o t s ms)
  ways_for None e = ways.unknown
  ways_for (Some (thread.Ended v)) e = ways.ended
  ways_for (Some (thread.Live f)) e =
      let l : is_live s t ≡ true = ap is_live_thread e in
      either P f.cancellation.is_enabled _ _ (λ _. ways_in (find (is_of t) s.waits) refl l) (λ _. ways.later l)

  pub request_ways : P (request_row t s ms)
  request_ways = ways_for (thread_of s t) refl
