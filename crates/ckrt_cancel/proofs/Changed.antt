-- What a change of a thread's cancellation leaves.
use Rattle.std.proofs.Common.{◌≡◌, ℕ, true, eqb, cond, Option, Some, None, is_some, refl, ap, ◌∙◌, arith}
use Rattle.std.proofs.lemmas.Bool.Decides.{nat_tests}
use Rattle.ckrt_thread.specs.declared.records.Cancellation.{Cancellation}
use Rattle.ckrt_thread.specs.declared.records.Live.{Live}
use Rattle.ckrt_thread.specs.declared.records.Thread.{Thread}
use Rattle.ckrt_thread.specs.declared.records.Thread.TheVariants as thread
use Rattle.ckrt_thread.specs.Cancellation.{is_consistent, is_unwinding, unwinding_with, acted_on, cancellation_of, with_cancellation}
use Rattle.ckrt_thread.specs.State.{State, IsWellFormed, thread_of, is_live, is_live_thread, is_proper_slot, change_live, change_thread}
use Rattle.ckrt_thread.specs.Unwinding.{with_cancellation_of}
use Rattle.ckrt_thread.proofs.Changes.{well_formed_cancellation}
use Rattle.ckrt_thread.proofs.SlotLemmas.{changed_at, kept_at, live_change}
use Rattle.ckrt_cancel.specs.Rows.{cancellation, unwinding_from, cancelled, with_request, requested}

-- who lives goes on, whatever changes of a thread that has not ended
pub live_changed : (f : Live → Live) (t q : ℕ) (s : State) → is_live s q ≡ true → is_live (record s { threads = change_thread f t s.threads }) q ≡ true
live_changed f t q s h = kept_at is_live_thread f s.threads t q (live_change f) ∙ h

pub live_with : (t q : ℕ) (c : Cancellation) (s : State) → is_live s q ≡ true → is_live (with_cancellation_of t c s) q ≡ true
live_with t q c s h = live_changed (with_cancellation c) t q s h

unwinding_live : (c : Cancellation) (o : Option Thread) → is_live_thread o ≡ true → is_unwinding (change_live (with_cancellation c) o) ≡ is_some c.unwinding
unwinding_live c None h = absurd (cc)
unwinding_live c (Some (thread.Ended v)) h = absurd (cc)
unwinding_live c (Some (thread.Live l)) h = refl

same_thread : {X : Type 0} (t : ℕ) (x y : X) → cond (eqb t t) x y ≡ x
same_thread t x y = grind (arith, nat_tests)

-- a thread unwinds where its cancellation says so
pub unwinding_after : (t : ℕ) (c : Cancellation) (s : State) → is_live s t ≡ true → is_unwinding (thread_of (with_cancellation_of t c s) t) ≡ is_some c.unwinding
unwinding_after t c s h =
    ap is_unwinding (changed_at (with_cancellation c) s.threads t t ∙ same_thread t (change_live (with_cancellation c) (thread_of s t)) (thread_of s t))
    ∙ unwinding_live c (thread_of s t) h

-- WELL-FORMED THREADS

consistent_of : (o : Option Thread) → is_proper_slot o ≡ true → is_consistent (cancellation_of o) ≡ true
consistent_of None p = refl
consistent_of (Some (thread.Ended v)) p = refl
consistent_of (Some (thread.Live l)) p = grind (arith, nat_tests, p)

module _ (t : ℕ) (s : State) (k : IsWellFormed s) (l : is_live s t ≡ true) where
  pub consistent : is_consistent (cancellation t s) ≡ true
  consistent = consistent_of (thread_of s t) (k.proper t)

  pub well_formed_unwinding : (v : ℕ) → IsWellFormed (unwinding_from t v s)
  well_formed_unwinding v = well_formed_cancellation s t (unwinding_with v (cancellation t s)) k l refl (λ _. refl)

  pub well_formed_cancelled : IsWellFormed (cancelled t s)
  well_formed_cancelled = well_formed_cancellation s t (acted_on (cancellation t s)) k l refl (λ _. refl)

  pub well_formed_requested : IsWellFormed (requested t s)
  well_formed_requested = well_formed_cancellation s t (with_request (cancellation t s)) k l consistent (λ u. u)
