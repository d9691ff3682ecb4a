-- What the rows of threads keep.
use Rattle.std.proofs.Common.{◌≡◌, ℕ, zero, suc, Bool, true, false, Option, Some, None, List, [], ◌∷◌, refl, sym, ap, ◌∙◌, arith, ◌||◌, ◌==◌, not, ◌%◌, nat_lt, slice_get, slice_set}
use Rattle.std.specs.List.{list_any, list_all}
use Rattle.std.specs.Option.{option_flatten}
use Rattle.std.proofs.lemmas.Bool.Decides.{nat_tests}
use Rattle.std.proofs.lemmas.List.Folds.{list_all-append}
use Rattle.ckrt_thread.specs.declared.records.Thread.{Thread}
use Rattle.ckrt_thread.specs.declared.records.Thread.TheVariants as thread
use Rattle.ckrt_thread.specs.declared.records.Live.{Live}
use Rattle.ckrt_thread.specs.declared.records.Wait.{Wait}
use Rattle.ckrt_thread.specs.declared.records.Reason.{Reason}
use Rattle.ckrt_thread.specs.declared.records.Reason.TheVariants as reason
use Rattle.ckrt_thread.specs.Waits.{without}
use Rattle.ckrt_thread.specs.State.{State, is_live_thread, is_live, is_any_live, is_joined, thread_of, free_place, change_live, change_thread, with_slot, blocked, unwaited, woken, with_word}
use Rattle.ckrt_thread.specs.Rows.{After, new_thread, create_at, create_row, join_at, join_row, detached, detach_at, detach_row}
use Rattle.ckrt_thread.specs.Unwinding.{next_handler}
use Rattle.ckrt_thread.specs.Granting.{GrantRule, grant_waiters, wait_result, answered, obtained}
use Rattle.ckrt_thread.specs.Abi.{A0}
use Rattle.ckrt_thread.proofs.WaitLemmas.{list_all-without}
use Rattle.ckrt_thread.proofs.SlotLemmas.{live_change}
use Rattle.ckrt_objects.proofs.Granting.{kept_by_granting}
use Rattle.ckrt_cancel.specs.Rows.{begin_unwind, act_on_request}
use Rattle.ckrt_cancel.proofs.Kept as kept_cancel
use Rattle.ckrt_calls.proofs.Choices.{choice}

-- SOME THREAD HAS NOT ENDED

-- a slot whose thread has not ended becomes one whose thread has not ended
any_live_set : (ts : List (Option Thread)) (t : ℕ) (y : Option Thread) → (is_live_thread (option_flatten (slice_get ts t)) ≡ true → is_live_thread y ≡ true) → list_any is_live_thread ts ≡ true → list_any is_live_thread (slice_set ts t y) ≡ true
any_live_set [] t y k h = h
any_live_set (x ∷ ts) zero y k h = grind (arith, nat_tests, k)
any_live_set (x ∷ ts) (suc t) y k h = grind (arith, nat_tests, any_live_set ts t y k)

-- a thread that has not ended changes
pub any_live_change : (f : Live → Live) (t : ℕ) (ts : List (Option Thread)) → list_any is_live_thread ts ≡ true → list_any is_live_thread (change_thread f t ts) ≡ true
any_live_change f t ts h = any_live_set ts t (change_live f (option_flatten (slice_get ts t))) (λ l. live_change f (option_flatten (slice_get ts t)) ∙ l) h

-- a slot whose thread has ended becomes free
any_live_free : (v i : ℕ) (s : State) → Some (thread.Ended v) ≡ thread_of s i → is_any_live s ≡ true → is_any_live (with_slot i None s) ≡ true
any_live_free v i s e h = any_live_set s.threads i None (λ l. absurd (let n : is_live s i ≡ false = ap is_live_thread (sym e) in cc)) h

-- one that lives is one
pub any_live_one : (t : ℕ) (ts : List (Option Thread)) → is_live_thread (option_flatten (slice_get ts t)) ≡ true → list_any is_live_thread ts ≡ true
any_live_one t [] l = absurd (cc)
any_live_one zero (x ∷ ts) l = grind (arith, nat_tests)
any_live_one (suc t) (x ∷ ts) l = grind (arith, nat_tests, any_live_one t ts l)

abbrev AnyLive : After → Type 0
AnyLive r = is_any_live r.threads ≡ true

any_live_create_at : (o : Option ℕ) (t a b c : ℕ) (d : Bool) (s : State) → is_any_live s ≡ true → AnyLive (create_at o t a b c d s)
any_live_create_at None t a b c d s h = h
any_live_create_at (Some i) t a b c d s h = any_live_change _ t _ (any_live_set s.threads _ (Some (new_thread a b c d)) (λ _. refl) h)

pub any_live_create : (t a b c d : ℕ) (s : State) → is_any_live s ≡ true → AnyLive (create_row t a b c d s)
any_live_create t a b c d s h = choice AnyLive (not (a % 4 == 0) || nat_lt 1 d) _ _ h (any_live_create_at (free_place s) t a b c (d == 1) s h)

any_live_join_at : (o : Option Thread) (t i : ℕ) (s : State) → o ≡ thread_of s i → is_any_live s ≡ true → AnyLive (join_at o t i s)
any_live_join_at None t i s e h = h
any_live_join_at (Some (thread.Ended v)) t i s e h = any_live_change _ t _ (any_live_free v i s e h)
any_live_join_at (Some (thread.Live l)) t i s e h = choice AnyLive (l.detached || is_joined i s) _ _ h h

pub any_live_join : (t i : ℕ) (s : State) → is_any_live s ≡ true → AnyLive (join_row t i s)
any_live_join t i s h = choice AnyLive (i == t) _ _ h (any_live_join_at (thread_of s i) t i s refl h)

any_live_detach_at : (o : Option Thread) (i : ℕ) (s : State) → o ≡ thread_of s i → is_any_live s ≡ true → AnyLive (detach_at o i s)
any_live_detach_at None i s e h = h
any_live_detach_at (Some (thread.Ended v)) i s e h = any_live_free v i s e h
any_live_detach_at (Some (thread.Live l)) i s e h = choice AnyLive (l.detached || is_joined i s) _ _ h (any_live_change detached i s.threads h)

pub any_live_detach : (i : ℕ) (s : State) → is_any_live s ≡ true → AnyLive (detach_row i s)
any_live_detach i s h = any_live_detach_at (thread_of s i) i s refl h

-- who is given a result has not ended
pub any_live_woken : (t v : ℕ) (s : State) → is_any_live s ≡ true → is_any_live (woken t v s) ≡ true
any_live_woken t v s h = any_live_change (with_word A0 v) t s.threads h

-- THE WAITS

-- each wait passes the test
abbrev pub AllWaits : (Wait → Bool) → State → Type 0
AllWaits f s = list_all f s.waits ≡ true

pub all_woken : (f : Wait → Bool) (t v : ℕ) (s : State) → AllWaits f s → AllWaits f (woken t v s)
all_woken f t v s h = list_all-without f t s.waits h

pub all_blocked : (f : Wait → Bool) (t : ℕ) (r : Reason) (d : Option ℕ) (s : State) → f (record { thread = t; reason = r; deadline = d }) ≡ true → AllWaits f s → AllWaits f (blocked t r d s)
all_blocked f t r d s e h = grind (arith, nat_tests, list_all-append f s.waits (record { thread = t; reason = r; deadline = d } ∷ []))

-- RULES ON WAITS

-- A rule reads no more of the threads than their waits. A wait that ends does not break it, nor does one for the end of a thread.
pub record IsWaitRule (P : State → Type 0) : Type 0 where
  pub same_waits : (s z : State) → z.waits ≡ s.waits → P s → P z
  pub unwaited : (t : ℕ) (s z : State) → z.waits ≡ without t s.waits → P s → P z
  pub joining : (t id : ℕ) (s : State) → P s → P (blocked t (reason.Join id) None s)

-- a test of each wait, which one for the end of a thread passes
pub all_rule : (f : Wait → Bool) → ((t id : ℕ) → f (record { thread = t; reason = reason.Join id; deadline = None }) ≡ true) → IsWaitRule (AllWaits f)
all_rule f j = record {
  same_waits = λ s z e h. rw e h;
  unwaited = λ t s z e h. rw e (list_all-without f t s.waits h);
  joining = λ t id s h. all_blocked f t (reason.Join id) None s (j t id) h;
}

module _ {P : State → Type 0} (rule : IsWaitRule P) where
  kept_create_at : (o : Option ℕ) (t a b c : ℕ) (d : Bool) (s : State) → P s → P (create_at o t a b c d s).threads
  kept_create_at None t a b c d s h = h
  kept_create_at (Some i) t a b c d s h = rule.same_waits s _ refl h

  pub kept_create : (t a b c d : ℕ) (s : State) → P s → P (create_row t a b c d s).threads
  kept_create t a b c d s h = choice (λ (r : After). P r.threads) (not (a % 4 == 0) || nat_lt 1 d) _ _ h (kept_create_at (free_place s) t a b c (d == 1) s h)

  kept_join_at : (o : Option Thread) (t i : ℕ) (s : State) → P s → P (join_at o t i s).threads
  kept_join_at None t i s h = h
  kept_join_at (Some (thread.Ended v)) t i s h = rule.same_waits s _ refl h
  kept_join_at (Some (thread.Live l)) t i s h = choice (λ (r : After). P r.threads) (l.detached || is_joined i s) _ _ h (rule.joining t i s h)

  pub kept_join : (t i : ℕ) (s : State) → P s → P (join_row t i s).threads
  kept_join t i s h = choice (λ (r : After). P r.threads) (i == t) _ _ h (kept_join_at (thread_of s i) t i s h)

  kept_detach_at : (o : Option Thread) (i : ℕ) (s : State) → P s → P (detach_at o i s).threads
  kept_detach_at None i s h = h
  kept_detach_at (Some (thread.Ended v)) i s h = rule.same_waits s _ refl h
  kept_detach_at (Some (thread.Live l)) i s h = choice (λ (r : After). P r.threads) (l.detached || is_joined i s) _ _ h (rule.same_waits s _ refl h)

  pub kept_detach : (i : ℕ) (s : State) → P s → P (detach_row i s).threads
  kept_detach i s h = kept_detach_at (thread_of s i) i s h

  -- UNWINDING

  pub kept_next : (t : ℕ) (s : State) → P s → P (next_handler t s)
  kept_next t s h = kept_cancel.kept_next P rule.same_waits rule.unwaited t s h

  pub kept_begun : (t v : ℕ) (s : State) → P s → P (begin_unwind t v s)
  kept_begun t v s h = kept_cancel.kept_begin_unwind P rule.same_waits rule.unwaited t v s h

  pub kept_acted : (t : ℕ) (s : State) → P s → P (act_on_request t s)
  kept_acted t s h = kept_cancel.kept_act_on_request P rule.same_waits rule.unwaited t s h

  -- GRANTS

  pub kept_answered : (o : Option ℕ) (t : ℕ) (s : State) → P s → P (answered o t s)
  kept_answered None t s h = kept_next t s h
  kept_answered (Some v) t s h = rule.same_waits s _ refl h

  kept_obtained : (w : Wait) (s : State) → P s → P (obtained w s)
  kept_obtained w s h = kept_answered (wait_result w.reason) w.thread (unwaited w.thread s) (rule.unwaited w.thread s _ refl h)

  pub kept_granted : {O : Type 0} (grants : GrantRule O) (o : O) (s : State) → P s → P (grant_waiters grants o s).1
  kept_granted grants o s h = kept_by_granting grants (λ _ z. P z) (λ _ z w k _ _. kept_obtained w z k) o s h
