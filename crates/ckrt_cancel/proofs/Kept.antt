-- What each row of cancellation keeps of waits, objects and other threads.
use Rattle.std.proofs.Common.{◌≡◌, ℕ, ◌≤◌, ◌%◌, ◌==◌, nat_lt, nat_le, not, ◌&&◌, eqb-true, Bool, true, false, Option, Some, None, List, length, refl, sym, subst, ◌∙◌, arith}
use Rattle.std.specs.List.{find, filter}
use Rattle.std.proofs.lemmas.Bool.Decides.{nat_tests}
use Rattle.ckrt_thread.specs.declared.records.Handler.{Handler}
use Rattle.ckrt_thread.specs.declared.records.Wait.{Wait}
use Rattle.ckrt_thread.specs.declared.records.Reason.{Reason}
use Rattle.ckrt_thread.specs.declared.records.Reason.TheVariants as reason
use Rattle.ckrt_thread.specs.declared.records.RetakeResult.{RetakeResult}
use Rattle.ckrt_thread.specs.declared.records.RetakeResult.TheVariants as retake
use Rattle.ckrt_thread.specs.declared.records.Object.TheVariants as object
use Rattle.ckrt_thread.specs.Cancellation.{MAX_HANDLERS, acted_on, handlers_of, popping, entering}
use Rattle.ckrt_thread.specs.Waits.{is_of, is_for, is_reason_for, without}
use Rattle.ckrt_thread.specs.State as threads
use Rattle.ckrt_thread.specs.State.{State, thread_of, is_live, is_waiting, count_of, unwaited, blocked}
use Rattle.ckrt_thread.specs.Rows as thread
use Rattle.ckrt_thread.specs.Granting.{answered}
use Rattle.ckrt_thread.specs.Unwinding.{newest_handler, next_handler, popped, with_cancellation_of}
use Rattle.ckrt_thread.proofs.Known.{waiting_live, waits_at_most_once}
use Rattle.ckrt_thread.proofs.WaitLemmas.{count_of-without}
use Rattle.ckrt_thread.proofs.Unwound.{waits_answered, live_answered}
use Rattle.ckrt_objects.specs.declared.address_map.Entry.{Entry}
use Rattle.ckrt_objects.proofs.Waits.{either, another, found_any, found_holds, queue_elsewhere, queue_other}
use Rattle.ckrt_mutex.specs.declared.records.Mutex.{Mutex}
use Rattle.ckrt_mutex.specs.Mutex.{is_available, mutex_at}
use Rattle.ckrt_mutex.specs.Rows.{After, retake_row}
use Rattle.ckrt_mutex.specs.WellFormed.{IsWellFormedWith}
use Rattle.ckrt_mutex.proofs.WellFormed.{well_formed_same, well_formed_unwaited}
use Rattle.ckrt_cond.specs.WellFormed as conditions
use Rattle.ckrt_cond.specs.WellFormed.{is_at_condition_with, may_resume}
use Rattle.ckrt_cond.proofs.Waits.{conditions_fewer, conditions_unwaited}
use Rattle.ckrt_cond.proofs.Kept as condition
use Rattle.ckrt_cond.proofs.Kept.{well_formed_resume}
use Rattle.ckrt_cancel.specs.Rows.{cancellation, unwinding_from, begin_unwind, cancelled, act_on_request, acts_at_point, at_point, request_row, with_state, with_type, set_state_row, set_type_row, push_row, pop_of, pop_row}
use Rattle.ckrt_cancel.proofs.Changed.{live_changed, live_with, well_formed_cancelled}
use Rattle.ckrt_cancel.proofs.Ways.{is_cut_short, request_ways}

-- SETTINGS AND HANDLERS leave the waits as they are

abbrev SameWaits : State → thread.After → Type 0
SameWaits s r = r.threads.waits ≡ s.waits

pub waits_set_state : (t n : ℕ) (s : State) → (set_state_row t n s).threads.waits ≡ s.waits
waits_set_state t n s = either (SameWaits s) (nat_lt 1 n) _ _ (λ _. refl) (λ _. refl)

pub waits_set_type : (t n : ℕ) (s : State) → (set_type_row t n s).threads.waits ≡ s.waits
waits_set_type t n s = either (SameWaits s) (nat_lt 1 n) _ _ (λ _. refl) (λ _. refl)

pub waits_push : (t routine argument : ℕ) (s : State) → (push_row t routine argument s).threads.waits ≡ s.waits
waits_push t routine argument s =
    either (SameWaits s) (not (routine % 4 == 0)) _ _ (λ _. refl)
    (λ _. either (SameWaits s) (nat_le MAX_HANDLERS (length (handlers_of (thread_of s t)))) _ _ (λ _. refl) (λ _. refl))

waits_pop_of : (o : Option Handler) (t execute back : ℕ) (s : State) → SameWaits s (pop_of o t execute back s)
waits_pop_of None t execute back s = refl
waits_pop_of (Some f) t execute back s = either (SameWaits s) (execute == 0) _ _ (λ _. refl) (λ _. refl)

pub waits_pop : (t execute back : ℕ) (s : State) → (pop_row t execute back s).threads.waits ≡ s.waits
waits_pop t execute back s = waits_pop_of (newest_handler t s) t execute back s

-- WHAT READS NO MORE OF THE THREADS THAN THEIR WAITS, and no wait that ends breaks

module _ (P : State → Type 0) (same : (s z : State) → z.waits ≡ s.waits → P s → P z) (ends : (t : ℕ) (s z : State) → z.waits ≡ without t s.waits → P s → P z) where
  kept_answered : (o : Option ℕ) (t : ℕ) (s : State) → P s → P (answered o t s)
  kept_answered o t s h =
      same (record s { waits = (answered o t s).waits }) (answered o t s) refl
      (waits_answered (λ ws. P (record s { waits = ws })) o t s (same s _ refl h) (λ w _. ends w.thread s _ refl h))

  pub kept_next : (t : ℕ) (s : State) → P s → P (next_handler t s)
  kept_next t s h = kept_answered None t s h

  pub kept_begin_unwind : (t v : ℕ) (s : State) → P s → P (begin_unwind t v s)
  kept_begin_unwind t v s h = kept_next t (unwinding_from t v s) (same s _ refl h)

  pub kept_act_on_request : (t : ℕ) (s : State) → P s → P (act_on_request t s)
  kept_act_on_request t s h = kept_next t (cancelled t s) (same s _ refl h)

  pub kept_interrupted : (t : ℕ) (s : State) → P s → P (act_on_request t (unwaited t s))
  kept_interrupted t s h = kept_act_on_request t (unwaited t s) (ends t s _ refl h)

  pub kept_point : (t : ℕ) (s : State) → P s → P (at_point t s)
  kept_point t s h = either P (acts_at_point t s) _ _ (λ _. kept_act_on_request t s h) (λ _. h)

  -- a request may begin a wait of its thread to retake a mutex, and to unwind then
  pub kept_request : ((t a : ℕ) (s : State) → P s → P (blocked t (reason.Retake a retake.Unwind) None s)) → (id : ℕ) (s : State) (ms : List (Entry Mutex)) → P s → P (request_row id s ms).threads
  kept_request retakes id s ms h =
      let z = unwaited id (cancelled id s) in
      let k = ends id (cancelled id s) z refl (same s _ refl h) in
      request_ways (λ r. P r.threads) id s ms (record {
        unknown = h;
        ended = h;
        later = λ _. same s _ refl h;
        now = λ w _ _. kept_interrupted id s h;
        at_condition = λ c a w _ _. either {X = After} (λ r. P r.threads) (is_available id (mutex_at a ms)) _ _ (λ _. kept_answered None id z k) (λ _. retakes id a z k);
      })

-- MUTEXES AND CONDITIONS

pub mutexes_interrupted : (ms : List (Entry Mutex)) (t : ℕ) (s : State) → IsWellFormedWith s ms → IsWellFormedWith (act_on_request t (unwaited t s)) ms
mutexes_interrupted ms t s h = kept_interrupted (λ z. IsWellFormedWith z ms) (λ y z e k. well_formed_same y z ms e k) (λ q y z e k. well_formed_unwaited q y z ms e k) t s h

same_conditions : (s z : State) → z.waits ≡ s.waits → conditions.IsWellFormed s → conditions.IsWellFormed z
same_conditions s z e h = conditions_fewer s z (λ f x. rw e at x) h

pub conditions_interrupted : (t : ℕ) (s : State) → conditions.IsWellFormed s → conditions.IsWellFormed (act_on_request t (unwaited t s))
conditions_interrupted t s h = kept_interrupted conditions.IsWellFormed same_conditions conditions_unwaited t s h

found_waiting : (t : ℕ) (w : Wait) (s : State) → find (is_of t) s.waits ≡ Some w → is_waiting s t ≡ true
found_waiting t w s e = found_any (is_of t) (is_of t) s.waits w e (found_holds (is_of t) s.waits w e)

-- who was found waiting has not ended
pub found_live : (t : ℕ) (w : Wait) (s : State) → threads.IsWellFormed s → find (is_of t) s.waits ≡ Some w → is_live s t ≡ true
found_live t w s k e = waiting_live s t k (found_waiting t w s e)

-- who was found at a condition may resume with its mutex
pub found_may_resume : (t c a : ℕ) (w : Wait) (s : State) → find (is_of t) s.waits ≡ Some w → w.reason ≡ reason.Condition c a → may_resume t a s ≡ true
found_may_resume t c a w s e i =
    let mine = found_holds (is_of t) s.waits w e in
    found_any (is_of t) (λ v. is_of t v && is_at_condition_with a v.reason) s.waits w e (rw i (grind (arith, nat_tests, mine)))

pub well_formed_request : (id : ℕ) (s : State) (ms : List (Entry Mutex)) → threads.IsWellFormed s → IsWellFormedWith s ms → conditions.IsWellFormed s → condition.IsKept (request_row id s ms)
well_formed_request id s ms k h g =
    let same = λ (z : State) (e : z.waits ≡ s.waits). well_formed_same s z ms e h in
    request_ways condition.IsKept id s ms (record {
      unknown = record { mutexes = h; conditions = g };
      ended = record { mutexes = h; conditions = g };
      later = λ _. record { mutexes = same _ refl; conditions = same_conditions s _ refl g };
      now = λ w _ _. record { mutexes = mutexes_interrupted ms id s h; conditions = conditions_interrupted id s g };
      at_condition = λ c a w e i. (
          let r = well_formed_resume id a retake.Unwind (cancelled id s) ms (well_formed_cancelled id s k (found_live id w s k e)) (same _ refl) (same_conditions s _ refl g) (found_may_resume id c a w s e i) in
          record { mutexes = r.mutexes; conditions = r.conditions }
          );
    })

-- THE QUEUE OF AN OBJECT at which no thread can be cancelled stays as it is

abbrev WaitsOnce : State → Type 0
WaitsOnce s = (q : ℕ) → count_of (is_of q) s.waits ≤ 1

once_unwaited : (t : ℕ) (s : State) → WaitsOnce s → WaitsOnce (unwaited t s)
once_unwaited t s once = λ q. (let c = count_of-without (is_of q) t s.waits in let o = once q in omega (arith, c, o))

-- f: whether who waits for this reason is in the queue
module _ (f : Reason → Bool) (input : f reason.Input ≡ false) (sleep : f reason.Sleep ≡ false) (join : (q : ℕ) → f (reason.Join q) ≡ false)
    (condition : (c a : ℕ) → f (reason.Condition c a) ≡ false) (retakes : (a : ℕ) (v : RetakeResult) → f (reason.Retake a v) ≡ false) where
  abbrev IsIn : Wait → Bool
  IsIn w = f w.reason

  abbrev Same : State → State → Type 0
  Same s z = filter IsIn z.waits ≡ filter IsIn s.waits

  joiner_apart : (t : ℕ) (r : Reason) → is_reason_for (object.End t) r ≡ true → f r ≡ false
  joiner_apart t (reason.Join q) h = join q
  joiner_apart t reason.Input h = input
  joiner_apart t reason.Sleep h = sleep
  joiner_apart t (reason.Condition c a) h = condition c a
  joiner_apart t (reason.Retake a v) h = retakes a v
  joiner_apart t (reason.Lock a) h = absurd (cc)
  joiner_apart t (reason.Barrier b) h = absurd (cc)
  joiner_apart t (reason.Read l) h = absurd (cc)
  joiner_apart t (reason.Write l) h = absurd (cc)

  cut_short_apart : (r : Reason) → is_cut_short r ≡ true → f r ≡ false
  cut_short_apart (reason.Join q) h = join q
  cut_short_apart reason.Input h = input
  cut_short_apart reason.Sleep h = sleep
  cut_short_apart (reason.Condition c a) h = condition c a
  cut_short_apart (reason.Retake a v) h = retakes a v
  cut_short_apart (reason.Lock a) h = absurd (cc)
  cut_short_apart (reason.Barrier b) h = absurd (cc)
  cut_short_apart (reason.Read l) h = absurd (cc)
  cut_short_apart (reason.Write l) h = absurd (cc)

  same_answered : (o : Option ℕ) (t : ℕ) (s : State) → WaitsOnce s → Same s (answered o t s)
  same_answered o t s once =
      waits_answered (λ ws. filter IsIn ws ≡ filter IsIn s.waits) o t s refl
      (λ w e. queue_elsewhere (is_for (object.End t)) IsIn s.waits w e (joiner_apart t w.reason (found_holds (is_for (object.End t)) s.waits w e)) (once w.thread))

  -- the wait of the thread ends
  same_unwaited : (t : ℕ) (w : Wait) (s : State) → find (is_of t) s.waits ≡ Some w → f w.reason ≡ false → WaitsOnce s → Same s (unwaited t s)
  same_unwaited t w s e n once =
      subst (λ q. filter IsIn (without q s.waits) ≡ filter IsIn s.waits) (sym (eqb-true t w.thread (found_holds (is_of t) s.waits w e)))
      (queue_elsewhere (is_of t) IsIn s.waits w e n (once w.thread))

  same_retaking : (t a : ℕ) (s : State) (ms : List (Entry Mutex)) → WaitsOnce s → Same s (retake_row t a retake.Unwind s ms).threads
  same_retaking t a s ms once =
      either {X = After} (λ r. Same s r.threads) (is_available t (mutex_at a ms)) _ _ (λ _. same_answered None t s once)
      (λ _. queue_other IsIn s.waits (record { thread = t; reason = reason.Retake a retake.Unwind; deadline = None }) (retakes a retake.Unwind))

  pub queue_next : (t : ℕ) (s : State) → threads.IsWellFormed s → Same s (next_handler t s)
  queue_next t s k = same_answered None t s (λ q. waits_at_most_once s q k)

  pub queue_begin_unwind : (t v : ℕ) (s : State) → threads.IsWellFormed s → Same s (begin_unwind t v s)
  queue_begin_unwind t v s k = same_answered None t (unwinding_from t v s) (λ q. waits_at_most_once s q k)

  pub queue_act_on_request : (t : ℕ) (s : State) → threads.IsWellFormed s → Same s (act_on_request t s)
  queue_act_on_request t s k = same_answered None t (cancelled t s) (λ q. waits_at_most_once s q k)

  pub queue_request : (id : ℕ) (s : State) (ms : List (Entry Mutex)) → threads.IsWellFormed s → Same s (request_row id s ms).threads
  queue_request id s ms k =
      let once : WaitsOnce s = λ q. waits_at_most_once s q k in
      let z = unwaited id (cancelled id s) in
      request_ways (λ r. Same s r.threads) id s ms (record {
        unknown = refl;
        ended = refl;
        later = λ _. refl;
        now = λ w e i. same_answered None id (cancelled id (unwaited id s)) (once_unwaited id s once) ∙ same_unwaited id w s e (cut_short_apart w.reason i) once;
        at_condition = λ c a w e i. same_retaking id a z ms (once_unwaited id s once) ∙ same_unwaited id w s e (rw i (condition c a)) once;
      })

-- WHO LIVES, and does not end, goes on

pub live_set_state : (u t n : ℕ) (s : State) → is_live s u ≡ true → is_live (set_state_row t n s).threads u ≡ true
live_set_state u t n s l =
    either {X = thread.After} (λ r. is_live r.threads u ≡ true) (nat_lt 1 n) _ _ (λ _. l) (λ _. live_changed _ t u (with_cancellation_of t (with_state n (cancellation t s)) s) (live_with t u _ s l))

pub live_set_type : (u t n : ℕ) (s : State) → is_live s u ≡ true → is_live (set_type_row t n s).threads u ≡ true
live_set_type u t n s l =
    either {X = thread.After} (λ r. is_live r.threads u ≡ true) (nat_lt 1 n) _ _ (λ _. l) (λ _. live_changed _ t u (with_cancellation_of t (with_type n (cancellation t s)) s) (live_with t u _ s l))

pub live_push : (u t routine argument : ℕ) (s : State) → is_live s u ≡ true → is_live (push_row t routine argument s).threads u ≡ true
live_push u t routine argument s l =
    either {X = thread.After} (λ r. is_live r.threads u ≡ true) (not (routine % 4 == 0)) _ _ (λ _. l)
    (λ _. either {X = thread.After} (λ r. is_live r.threads u ≡ true) (nat_le MAX_HANDLERS (length (handlers_of (thread_of s t)))) _ _ (λ _. l) (λ _. live_changed _ t u s l))

live_pop_of : (o : Option Handler) (u t execute back : ℕ) (s : State) → is_live s u ≡ true → is_live (pop_of o t execute back s).threads u ≡ true
live_pop_of None u t execute back s l = l
live_pop_of (Some f) u t execute back s l =
    either {X = thread.After} (λ r. is_live r.threads u ≡ true) (execute == 0) _ _ (λ _. live_changed popping t u s l)
    (λ _. live_changed (entering back f) t u (popped (Some f) t s) (live_changed popping t u s l))

pub live_pop : (u t execute back : ℕ) (s : State) → is_live s u ≡ true → is_live (pop_row t execute back s).threads u ≡ true
live_pop u t execute back s l = live_pop_of (newest_handler t s) u t execute back s l

-- the caller of a request, which does not wait, goes on
pub live_request : (u id : ℕ) (s : State) (ms : List (Entry Mutex)) → is_live s u ≡ true → is_waiting s u ≡ false → is_live (request_row id s ms).threads u ≡ true
live_request u id s ms l n =
    let apart = λ (w : Wait) (e : find (is_of id) s.waits ≡ Some w). another id u s.waits (found_waiting id w s e) n in
    let k = live_with id u (acted_on (cancellation id s)) s l in
    request_ways (λ r. is_live r.threads u ≡ true) id s ms (record {
      unknown = l;
      ended = l;
      later = λ _. live_with id u _ s l;
      now = λ w e _. live_answered u None id (cancelled id (unwaited id s)) (apart w e) (live_with id u _ (unwaited id s) l);
      at_condition = λ c a w e _. either {X = After} (λ r. is_live r.threads u ≡ true) (is_available id (mutex_at a ms)) _ _
          (λ _. live_answered u None id (unwaited id (cancelled id s)) (apart w e) k) (λ _. k);
    })
