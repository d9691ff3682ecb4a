-- Each row of cancellation keeps the threads well-formed.
use Rattle.std.proofs.Common.{◌≡◌, ℕ, ◌<◌, ◌%◌, ◌==◌, nat_lt, nat_le, not, Bool, true, false, Option, Some, None, IfSome, is_some, List, length, refl, ◌∙◌, arith}
use Rattle.std.proofs.lemmas.Bool.Decides.{nat_tests}
use Rattle.ckrt_thread.specs.declared.records.Cancellation.{Cancellation}
use Rattle.ckrt_thread.specs.declared.records.Handler.{Handler}
use Rattle.ckrt_thread.specs.declared.records.Thread.{Thread}
use Rattle.ckrt_thread.specs.declared.records.Thread.TheVariants as thread
use Rattle.ckrt_thread.specs.declared.records.RetakeResult.TheVariants as retake
use Rattle.ckrt_thread.specs.Abi.{A1}
use Rattle.ckrt_thread.specs.Cancellation.{MAX_HANDLERS, is_consistent, is_aligned_handler, acted_on, handlers_of, newest, popping, entering}
use Rattle.ckrt_thread.specs.State.{State, IsWellFormed, thread_of, is_live, is_waiting, is_proper_slot, unwaited}
use Rattle.ckrt_thread.specs.Rows.{After}
use Rattle.ckrt_thread.specs.Unwinding.{newest_handler, popped, with_cancellation_of}
use Rattle.ckrt_thread.proofs.Known.{waits_at_most_once}
use Rattle.ckrt_thread.proofs.WaitLemmas.{gone}
use Rattle.ckrt_thread.proofs.Changes.{well_formed_change, well_formed_without, well_formed_word, well_formed_cancellation, well_formed_pushed, changes_popping, changes_entering, aligned_newest}
use Rattle.ckrt_thread.proofs.Unwound.{well_formed_next}
use Rattle.ckrt_objects.specs.declared.address_map.Entry.{Entry}
use Rattle.ckrt_objects.proofs.Waits.{either}
use Rattle.ckrt_mutex.specs.declared.records.Mutex.{Mutex}
use Rattle.ckrt_cond.proofs.ThreadsKept.{threads_resume}
use Rattle.ckrt_cancel.specs.Rows.{cancellation, unwinding_from, begin_unwind, cancelled, act_on_request, acts_at_point, at_point, request_row, with_state, with_type, state_of, type_of, set_to, set_state_row, set_type_row, push_row, pop_of, pop_row}
use Rattle.ckrt_cancel.proofs.Changed.{live_with, unwinding_after, consistent, well_formed_unwinding, well_formed_cancelled, well_formed_requested}
use Rattle.ckrt_cancel.proofs.Ways.{request_ways}
use Rattle.ckrt_cancel.proofs.Kept.{found_live, found_may_resume}

-- the newest handler of a proper thread is proper
newest_aligned : (o : Option Thread) → is_proper_slot o ≡ true → IfSome (newest (handlers_of o)) (λ h. is_aligned_handler h ≡ true)
newest_aligned None p = tt
newest_aligned (Some (thread.Ended v)) p = tt
newest_aligned (Some (thread.Live l)) p = aligned_newest l p

abbrev IsKept : After → Type 0
IsKept r = IsWellFormed r.threads

-- UNWINDING

module _ (t : ℕ) (s : State) (k : IsWellFormed s) (l : is_live s t ≡ true) (idle : is_waiting s t ≡ false) where
  pub threads_begin_unwind : (v : ℕ) → IsWellFormed (begin_unwind t v s)
  threads_begin_unwind v = well_formed_next t (unwinding_from t v s) (well_formed_unwinding t s k l v) (live_with t t _ s l) idle

  pub threads_act_on_request : IsWellFormed (act_on_request t s)
  threads_act_on_request = well_formed_next t (cancelled t s) (well_formed_cancelled t s k l) (live_with t t _ s l) idle

  pub threads_point : IsWellFormed (at_point t s)
  threads_point = either IsWellFormed (acts_at_point t s) _ _ (λ _. threads_act_on_request) (λ _. k)

-- REQUESTS

pub threads_request : (id : ℕ) (s : State) (ms : List (Entry Mutex)) → IsWellFormed s → IsWellFormed (request_row id s ms).threads
threads_request id s ms k =
    request_ways (λ r. IsWellFormed r.threads) id s ms (record {
      unknown = k;
      ended = k;
      later = λ l. well_formed_requested id s k l;
      now = λ w e _. threads_act_on_request id (unwaited id s) (well_formed_without s id k) (found_live id w s k e) (gone id s.waits (waits_at_most_once s id k));
      at_condition = λ c a w e i. (
          let l = found_live id w s k e in
          threads_resume id a retake.Unwind (cancelled id s) ms (well_formed_cancelled id s k l) (found_may_resume id c a w s e i) (unwinding_after id (acted_on (cancellation id s)) s l)
          );
    })

-- STATE AND TYPE

-- another setting, of a thread that does not unwind
abbrev IsSetting : Cancellation → Cancellation → Type 0
IsSetting c d = (is_consistent d ≡ true) × (is_some d.unwinding ≡ is_some c.unwinding)

state_setting : (n : ℕ) (c : Cancellation) → is_consistent c ≡ true → IsSetting c (with_state n c)
state_setting n c h = either (IsSetting c) (is_some c.unwinding) c (record c { is_enabled = n == 0 }) (λ _. (h, refl)) (λ e. (rw e refl, refl))

type_setting : (n : ℕ) (c : Cancellation) → is_consistent c ≡ true → IsSetting c (with_type n c)
type_setting n c h = either (IsSetting c) (is_some c.unwinding) c (record c { is_asynchronous = n == 1 }) (λ _. (h, refl)) (λ e. (rw e refl, refl))

module _ (t : ℕ) (s : State) (k : IsWellFormed s) (l : is_live s t ≡ true) where
  threads_set_to : (c : Cancellation) (old : ℕ) → IsSetting (cancellation t s) c → IsKept (set_to c old t s)
  threads_set_to c old i = well_formed_word (with_cancellation_of t c s) t A1 old (well_formed_cancellation s t c k l i.0 (λ u. i.1 ∙ u))

  pub threads_set_state : (n : ℕ) → IsKept (set_state_row t n s)
  threads_set_state n =
      either IsKept (nat_lt 1 n) _ _ (λ _. k)
      (λ _. threads_set_to (with_state n (cancellation t s)) (state_of (cancellation t s)) (state_setting n (cancellation t s) (consistent t s k l)))

  pub threads_set_type : (n : ℕ) → IsKept (set_type_row t n s)
  threads_set_type n =
      either IsKept (nat_lt 1 n) _ _ (λ _. k)
      (λ _. threads_set_to (with_type n (cancellation t s)) (type_of (cancellation t s)) (type_setting n (cancellation t s) (consistent t s k l)))

  -- CLEAN-UP HANDLERS

  room_left : (n : ℕ) → nat_le MAX_HANDLERS n ≡ false → n < MAX_HANDLERS
  room_left n e = grind (arith, nat_tests, e)

  not_not : (b : Bool) → not b ≡ false → b ≡ true
  not_not true e = refl
  not_not false e = absurd (cc)

  pub threads_push : (routine argument : ℕ) → IsKept (push_row t routine argument s)
  threads_push routine argument =
      either IsKept (not (routine % 4 == 0)) _ _ (λ _. k) (λ a.
      either IsKept (nat_le MAX_HANDLERS (length (handlers_of (thread_of s t)))) _ _ (λ _. k)
      (λ r. well_formed_pushed s t (record { routine = routine; argument = argument }) k l (not_not (routine % 4 == 0) a) (room_left (length (handlers_of (thread_of s t))) r)))

  threads_pop_of : (o : Option Handler) → IfSome o (λ h. is_aligned_handler h ≡ true) → (execute back : ℕ) → IsKept (pop_of o t execute back s)
  threads_pop_of None a execute back = k
  threads_pop_of (Some h) a execute back =
      let less = well_formed_change s popping t changes_popping k in
      either IsKept (execute == 0) _ _ (λ _. less) (λ _. well_formed_change (popped (Some h) t s) (entering back h) t (changes_entering back h a) less)

  pub threads_pop : (execute back : ℕ) → IsKept (pop_row t execute back s)
  threads_pop execute back = threads_pop_of (newest_handler t s) (newest_aligned (thread_of s t) (k.proper t)) execute back
