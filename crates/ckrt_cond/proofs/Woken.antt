-- The first waiter of a condition is taken out of the list and woken.
use Rattle.std.proofs.Common.{◌≡◌, ℕ, ◌<◌, true, false, List, [], ◌∷◌, length, take, drop, slice_get, Some, None, is_some, refl, sym, ap, subst, ◌∙◌, arith}
use Rattle.std.specs.Prelude.{option_map}
use Rattle.std.proofs.lemmas.Bool.Decides.{nat_tests}
use Rattle.ckrt_thread.specs.declared.records.Wait.{Wait}
use Rattle.ckrt_thread.specs.declared.records.Waiter.{Waiter}
use Rattle.ckrt_thread.specs.declared.records.Reason.TheVariants as reason
use Rattle.ckrt_thread.specs.declared.records.Object.TheVariants as object
use Rattle.ckrt_thread.specs.declared.records.RetakeResult.TheVariants as retake
use Rattle.ckrt_thread.specs.declared.records.CallResult.TheVariants.{Done}
use Rattle.ckrt_thread.specs.State as threads
use Rattle.ckrt_thread.specs.State.{State, first_waiter, first_unwaited, unwaited, unwaited_first, of_wait, of_waiter}
use Rattle.ckrt_thread.proofs.Grants.{first_of_queue}
use Rattle.ckrt_thread.proofs.Waking.{waiter_is, no_first, none_unwaited}
use Rattle.ckrt_objects.specs.declared.address_map.Entry.{Entry}
use Rattle.ckrt_mutex.specs.declared.records.Mutex.{Mutex}
use Rattle.ckrt_mutex.specs.Rows.{unchanged}
use Rattle.ckrt_cond.specs.Rows.{waiters, has_waiters, resume_row, woken_from, all_woken, signal_row, broadcast_row}
use Rattle.ckrt_cond.specs.WellFormed.{may_resume}
use Rattle.ckrt_cond.proofs.Waits.{no_waiters}
use Rattle.ckrt_cond.proofs.Rows.{first_may_resume, queue_resumed, is_first_condition, signal_none}

-- WHO WAS TAKEN OUT

module _ (c : ℕ) (s : State) (x : Waiter) (e : Some (of_waiter x) ≡ option_map of_wait (first_waiter (object.Condition c) s)) where
  pub taken_unwaited : first_unwaited (object.Condition c) s ≡ unwaited x.thread s
  taken_unwaited =
      let i = waiter_is (first_waiter (object.Condition c) s) x e in
      ap (λ f. unwaited_first f s) i.first ∙ sym (ap (λ p. unwaited p.0 s) i.who)

  pub taken_may_resume : (b a : ℕ) → x.reason ≡ reason.Condition b a → may_resume x.thread a s ≡ true
  taken_may_resume b a r =
      let i = waiter_is (first_waiter (object.Condition c) s) x e in
      subst (λ t. may_resume t a s ≡ true) (sym (ap (λ p. p.0) i.who)) (first_may_resume c b a s i.wait i.first (sym (ap (λ p. p.1) i.who) ∙ r))

  pub taken_condition : (b : ℕ) × (x.reason ≡ reason.Condition c b)
  taken_condition =
      let i = waiter_is (first_waiter (object.Condition c) s) x e in
      let r = is_first_condition c s i.wait i.first in
      (r.0, ap (λ p. p.1) i.who ∙ r.1)

  pub taken_waiting : has_waiters c s ≡ true
  taken_waiting = (let i = waiter_is (first_waiter (object.Condition c) s) x e in ap is_some i.first)

  pub taken_queue : (a : ℕ) (ms : List (Entry Mutex)) → threads.IsWellFormed s → waiters c (resume_row x.thread a retake.Done s ms).threads ≡ drop 1 (waiters c s)
  taken_queue a ms k =
      let i = waiter_is (first_waiter (object.Condition c) s) x e in
      let q = queue_resumed c a s ms i.wait k i.first in
      ap (λ p. waiters c (resume_row p.0 a retake.Done s ms).threads) i.who ∙ (let r : drop 1 (waiters c s) ≡ waiters c (resume_row i.wait.thread a retake.Done s ms).threads = grind (arith, nat_tests, q) in sym r)

  pub taken_signal : (b a : ℕ) (ms : List (Entry Mutex)) → threads.IsWellFormed s → x.reason ≡ reason.Condition b a
      → signal_row c s ms ≡ unchanged (Done 0) (resume_row x.thread a retake.Done s ms).threads (resume_row x.thread a retake.Done s ms).mutexes
  taken_signal b a ms k r =
      let i = waiter_is (first_waiter (object.Condition c) s) x e in
      let q = queue_resumed c a s ms i.wait k i.first in
      let one : take 1 (waiters c s) ≡ i.wait ∷ [] = grind (arith, nat_tests, q) in
      ap (λ ws. all_woken ws s ms) one
      ∙ (ap (λ p. unchanged (Done 0) (woken_from p.1 p.0 s ms).threads (woken_from p.1 p.0 s ms).mutexes) (sym i.who)
      ∙ ap (λ v. unchanged (Done 0) (woken_from v x.thread s ms).threads (woken_from v x.thread s ms).mutexes) r)

-- NOBODY WAITS

none_dropped : (ws : List Wait) → ws ≡ [] → ws ≡ drop 1 ws
none_dropped [] e = (let none : List Wait = [] in let d : drop 1 none ≡ none = grind (arith, nat_tests) in sym d)
none_dropped (w ∷ ws) e = absurd (cc)

module _ (c : ℕ) (s : State) (e : None ≡ option_map of_wait (first_waiter (object.Condition c) s)) where
  pub untaken : first_unwaited (object.Condition c) s ≡ s
  untaken = none_unwaited (object.Condition c) s (no_first (first_waiter (object.Condition c) s) e)

  pub untaken_queue : waiters c (first_unwaited (object.Condition c) s) ≡ drop 1 (waiters c s)
  untaken_queue = ap (waiters c) untaken ∙ none_dropped (waiters c s) (no_waiters c s (no_first (first_waiter (object.Condition c) s) e))

  pub untaken_signal : (ms : List (Entry Mutex)) → signal_row c s ms ≡ unchanged (Done 0) s ms
  untaken_signal ms = signal_none c s ms (no_first (first_waiter (object.Condition c) s) e)

-- ALL are woken, the first and then the others

all_woken_result : (ws : List Wait) (s : State) (ms : List (Entry Mutex)) → (all_woken ws s ms).result ≡ Done 0
all_woken_result [] s ms = refl
all_woken_result (w ∷ ws) s ms = (let r = woken_from w.reason w.thread s ms in all_woken_result ws r.threads r.mutexes)

pub signal_result : (c : ℕ) (s : State) (ms : List (Entry Mutex)) → (signal_row c s ms).result ≡ Done 0
signal_result c s ms = all_woken_result (take 1 (waiters c s)) s ms

first_then : (ws : List Wait) (s : State) (ms : List (Entry Mutex)) → all_woken (drop 1 ws) (all_woken (take 1 ws) s ms).threads (all_woken (take 1 ws) s ms).mutexes ≡ all_woken ws s ms
first_then [] s ms =
    let none : List Wait = [] in
    let t : take 1 none ≡ none = grind (arith, nat_tests) in
    let d : drop 1 none ≡ none = grind (arith, nat_tests) in
    ap (λ vs. all_woken (drop 1 none) (all_woken vs s ms).threads (all_woken vs s ms).mutexes) t ∙ ap (λ vs. all_woken vs s ms) d
first_then (w ∷ ws) s ms =
    let t : take 1 (w ∷ ws) ≡ w ∷ [] = grind (arith, nat_tests) in
    let d : drop 1 (w ∷ ws) ≡ ws = grind (arith, nat_tests) in
    let r = woken_from w.reason w.thread s ms in
    ap (λ vs. all_woken (drop 1 (w ∷ ws)) (all_woken vs s ms).threads (all_woken vs s ms).mutexes) t ∙ ap (λ vs. all_woken vs r.threads r.mutexes) d

pub broadcast_step : (c : ℕ) (s z : State) (ms ns : List (Entry Mutex)) → z ≡ (signal_row c s ms).threads → ns ≡ (signal_row c s ms).mutexes → waiters c z ≡ drop 1 (waiters c s)
    → broadcast_row c z ns ≡ broadcast_row c s ms
broadcast_step c s z ms ns e m q =
    ap (λ ws. all_woken ws z ns) q ∙ (ap (λ y. all_woken (drop 1 (waiters c s)) y ns) e ∙ (ap (λ ks. all_woken (drop 1 (waiters c s)) (signal_row c s ms).threads ks) m ∙ first_then (waiters c s) s ms))

-- WHO IS LEFT: one less, where there was one

fewer : (ws vs : List Wait) → is_some (slice_get ws 0) ≡ true → vs ≡ drop 1 ws → length vs < length ws
fewer [] vs h q = absurd (cc)
fewer (w ∷ ws) vs h q = (let d : drop 1 (w ∷ ws) ≡ ws = grind (arith, nat_tests) in let k = ap length (q ∙ d) in omega (arith, k))

pub fewer_waiters : (c : ℕ) (s z : State) → has_waiters c s ≡ true → waiters c z ≡ drop 1 (waiters c s) → length (waiters c z) < length (waiters c s)
fewer_waiters c s z h q = fewer (waiters c s) (waiters c z) (sym (ap is_some (first_of_queue (object.Condition c) s)) ∙ h) q

no_rest : (ws vs : List Wait) → is_some (slice_get ws 0) ≡ false → vs ≡ drop 1 ws → vs ≡ []
no_rest [] vs h q = q ∙ sym (none_dropped [] refl)
no_rest (w ∷ ws) vs h q = absurd (cc)

pub none_left : (c : ℕ) (s z : State) → has_waiters c s ≡ false → waiters c z ≡ drop 1 (waiters c s) → waiters c z ≡ []
none_left c s z h q = no_rest (waiters c s) (waiters c z) (sym (ap is_some (first_of_queue (object.Condition c) s)) ∙ h) q

-- where nobody was left, all have been woken
pub broadcast_end : (c : ℕ) (s z : State) (ms ns : List (Entry Mutex)) → has_waiters c s ≡ false → z ≡ (signal_row c s ms).threads → ns ≡ (signal_row c s ms).mutexes → waiters c z ≡ drop 1 (waiters c s)
    → broadcast_row c s ms ≡ unchanged (Done 0) z ns
broadcast_end c s z ms ns h e m q = sym (broadcast_step c s z ms ns e m q) ∙ ap (λ ws. all_woken ws z ns) (none_left c s z h q)
