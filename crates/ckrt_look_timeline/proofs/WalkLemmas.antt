-- What a thread does at the steps of a run, one after another.
use Rattle.std.proofs.Common.{◌≡◌, ◌∙◌, ◌+◌, ℕ, zero, suc, true, if◌then◌else◌, List, [], ◌∷◌, ◌++◌, replicate, Option, None, Some, is_some, refl, sym, ap, true≢false, arith}
use Rattle.std.specs.List.{find}
use Rattle.std.specs.Option.{option_flatten}
use Rattle.std.specs.Prelude.{slice_get}
use Rattle.ckrt_thread.specs.State as threads
use Rattle.ckrt_thread.specs.Waits.{is_of}
use Rattle.ckrt_machine.specs.declared.event.RunEnd.{RunEnd}
use Rattle.ckrt_machine.specs.Runs.{after_steps, stop_of, with_byte}
use Rattle.ckrt_machine.specs.Steps.{State, hart_step}
use Rattle.ckrt_look_timeline.specs.Still.{IsStill, standing}
use Rattle.ckrt_look_timeline.proofs.StillLemmas.{quiet_still}
use Rattle.ckrt_look_calls.proofs.RowLemmas.{GoOnQuietly}
use Rattle.ckrt_look_timeline.specs.declared.piece.Activity.TheVariants as activity
use Rattle.ckrt_look_timeline.specs.Activities.{activity_of, aside, by_standing}
use Rattle.ckrt_look_timeline.specs.Tracks.{in_rest, in_run, unless_ended}

-- one step more, where nothing ended the run
pub rest_next : (t n h : ℕ) (s : State) (out : List ℕ) → stop_of h s.tables out ≡ None
    → in_rest t (suc n) h s out ≡ activity_of h t s.tables.threads ∷ in_rest t n h (hart_step h s).state (with_byte (hart_step h s).put out)
rest_next t n h s out going = ap (λ o. unless_ended o (in_run t (suc n) h s out)) going

-- no step more, where something ended it
pub rest_ended : (t n h : ℕ) (s : State) (out : List ℕ) → is_some (stop_of h s.tables out) ≡ true → in_rest t n h s out ≡ []
rest_ended t n h s out ended = go (stop_of h s.tables out) ended
  where
    go : (o : Option RunEnd) → is_some o ≡ true → unless_ended o (in_run t n h s out) ≡ []
    go None e = absurd (true≢false (sym e))
    go (Some how) e = refl

-- and none where none is left
pub rest_used : (t h : ℕ) (s : State) (out : List ℕ) → in_rest t 0 h s out ≡ []
rest_used t h s out = go (stop_of h s.tables out)
  where
    go : (o : Option RunEnd) → unless_ended o (in_run t 0 h s out) ≡ []
    go None = refl
    go (Some how) = refl

-- A THREAD DOES THE SAME BEHIND A QUIET STEP

still_does : (h t : ℕ) (s z : threads.State) → IsStill s z → activity_of h t z ≡ activity_of h t s
still_does h t s z still =
    ap (λ hs. if threads.holds t (option_flatten (slice_get hs h)) then activity.Running h else aside t z) still.harts
    ∙ ap (λ a. if threads.holds t (option_flatten (slice_get s.harts h)) then activity.Running h else a)
    (ap (λ o. by_standing o (find (is_of t) z.waits)) (still.stand t) ∙ ap (λ ws. by_standing (standing (threads.thread_of s t)) (find (is_of t) ws)) still.waits)

-- STEPS THAT ARE QUIET, where n more may come

pub quiet_rest : (made n all t h : ℕ) (s : State) (out : List ℕ) → all ≡ made + n → GoOnQuietly made h s out
    → in_rest t all h s out ≡ replicate made (activity_of h t s.tables.threads) ++ in_rest t n h (after_steps made h s out).state (after_steps made h s out).output
quiet_rest zero n all t h s out is quiet = let same : all ≡ n = omega (arith, is) in ap (λ j. in_rest t j h s out) same
quiet_rest (suc m) n all t h s out is quiet =
    let z = (hart_step h s).state in
    let put = with_byte (hart_step h s).put out in
    let next : all ≡ suc (m + n) = omega (arith, is) in
    ap (λ j. in_rest t j h s out) next ∙ rest_next t (m + n) h s out (quiet.0 0 (omega arith))
    ∙ ap (λ l. activity_of h t s.tables.threads ∷ l)
    (quiet_rest m n (m + n) t h z put refl ((λ k less. quiet.0 (suc k) (omega (arith, less))), (λ k less. quiet.1 (suc k) (omega (arith, less))))
    ∙ ap (λ a. replicate m a ++ in_rest t n h (after_steps m h z put).state (after_steps m h z put).output) (still_does h t s.tables.threads z.tables.threads (quiet_still h s (quiet.1 0 (omega arith)))))

-- a run, by its first step and those behind it
pub run_done : (t n limit h : ℕ) (s z : State) (out : List ℕ) → suc n ≡ limit → z ≡ (hart_step h s).state → out ≡ with_byte (hart_step h s).put []
    → activity_of h t s.tables.threads ∷ in_rest t n h z out ≡ in_run t limit h s []
run_done t n limit h s z out all state output =
    ap (λ (y : State). activity_of h t s.tables.threads ∷ in_rest t n h y out) state ∙ ap (λ o. activity_of h t s.tables.threads ∷ in_rest t n h (hart_step h s).state o) output
    ∙ ap (λ j. in_run t j h s []) all
