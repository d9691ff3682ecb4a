-- Steps of a run, one after another.
use Rattle.std.proofs.Common.{◌≡◌, ◌∙◌, ℕ, suc, List, [], ◌++◌, Option, None, Some, is_some, true, false, refl, sym, ap, true≢false}
use Rattle.ckrt_machine.specs.declared.event.RunEnd.{RunEnd}
use Rattle.ckrt_machine.specs.Runs.{run_on, stop_of, stopped, with_byte}
use Rattle.ckrt_machine.specs.Steps.{State, hart_step}
use Rattle.ckrt_machine.specs.Stores.{unless_stopped}
use Rattle.ckrt_look_calls.specs.Events.{at, lines_after, run_lines, state_behind}
use Rattle.ckrt_look_calls.specs.Lines.{step_lines}

-- one step more, where nothing ended the run
pub state_next : (n h : ℕ) (s : State) (out : List ℕ) → stop_of h s.tables out ≡ None
    → state_behind (suc n) h s out ≡ state_behind n h (hart_step h s).state (with_byte (hart_step h s).put out)
state_next n h s out going = ap (λ o. (stopped (run_on (suc n)) o (suc n) h s out).state) going

pub lines_next : (k n made h : ℕ) (s : State) (out : List ℕ) → stop_of h s.tables out ≡ None
    → lines_after k (suc n) made h s out ≡ step_lines (at k made) h s ++ lines_after k n (suc made) h (hart_step h s).state (with_byte (hart_step h s).put out)
lines_next k n made h s out going = ap (λ o. unless_stopped o (run_lines k (suc n) made h s out)) going

-- no step more, where something ended it
pub state_ended : (n h : ℕ) (s : State) (out : List ℕ) → is_some (stop_of h s.tables out) ≡ true → state_behind n h s out ≡ s
state_ended n h s out ended = go (stop_of h s.tables out) ended
  where
    go : (o : Option RunEnd) → is_some o ≡ true → (stopped (run_on n) o n h s out).state ≡ s
    go None e = absurd (true≢false (sym e))
    go (Some how) e = refl

pub lines_ended : (k n made h : ℕ) (s : State) (out : List ℕ) → is_some (stop_of h s.tables out) ≡ true → lines_after k n made h s out ≡ []
lines_ended k n made h s out ended = go (stop_of h s.tables out) ended
  where
    go : (o : Option RunEnd) → is_some o ≡ true → unless_stopped o (run_lines k n made h s out) ≡ []
    go None e = absurd (true≢false (sym e))
    go (Some how) e = refl

-- and none where none is left
pub state_used : (h : ℕ) (s : State) (out : List ℕ) → state_behind 0 h s out ≡ s
state_used h s out = go (stop_of h s.tables out)
  where
    go : (o : Option RunEnd) → (stopped (run_on 0) o 0 h s out).state ≡ s
    go None = refl
    go (Some how) = refl

pub lines_used : (k made h : ℕ) (s : State) (out : List ℕ) → lines_after k 0 made h s out ≡ []
lines_used k made h s out = go (stop_of h s.tables out)
  where
    go : (o : Option RunEnd) → unless_stopped o (run_lines k 0 made h s out) ≡ []
    go None = refl
    go (Some how) = refl

pub is_going : (o : Option RunEnd) → is_some o ≡ false → o ≡ None
is_going None e = refl
is_going (Some how) e = absurd (true≢false e)

pub output_used : (h : ℕ) (s : State) (out : List ℕ) → (stopped (run_on 0) (stop_of h s.tables out) 0 h s out).output ≡ out
output_used h s out = go (stop_of h s.tables out)
  where
    go : (o : Option RunEnd) → (stopped (run_on 0) o 0 h s out).output ≡ out
    go None = refl
    go (Some how) = refl

-- a run, by its first step and those behind it
pub run_is : (n limit h : ℕ) (s t : State) (out : List ℕ) → suc n ≡ limit → t ≡ (hart_step h s).state → out ≡ with_byte (hart_step h s).put []
    → state_behind n h t out ≡ (run_on limit h s []).state
run_is n limit h s t out all state output =
    ap (λ (r : State). state_behind n h r out) state ∙ ap (λ o. state_behind n h (hart_step h s).state o) output ∙ ap (λ j. (run_on j h s []).state) all

pub lines_are : (k n limit h : ℕ) (s t : State) (out : List ℕ) → suc n ≡ limit → t ≡ (hart_step h s).state → out ≡ with_byte (hart_step h s).put []
    → step_lines (at k 0) h s ++ lines_after k n 1 h t out ≡ run_lines k limit 0 h s []
lines_are k n limit h s t out all state output =
    ap (λ (r : State). step_lines (at k 0) h s ++ lines_after k n 1 h r out) state ∙ ap (λ o. step_lines (at k 0) h s ++ lines_after k n 1 h (hart_step h s).state o) output
    ∙ ap (λ j. run_lines k j 0 h s []) all
