-- What comes of the steps of a run, one after another.
use Rattle.std.proofs.Common.{◌≡◌, ◌∙◌, ℕ, suc, [], Option, None, Some, is_some, true, refl, sym, ap, true≢false}
use Rattle.ckrt_machine.specs.declared.event.RunEnd.{RunEnd}
use Rattle.ckrt_machine.specs.Runs.{Stepping, stop_of}
use Rattle.ckrt_machine.specs.Steps.{State, hart_step}
use Rattle.ckrt_look_calls.specs.Events.{at}
use Rattle.ckrt_look_calls.specs.declared.lines.Place.{Place}
use Rattle.ckrt_look_calls.specs.Walks.{after_rest, after_run, begun, next, stepped, unless_ended}

-- one step more, where nothing ended the run
pub rest_next : {A : Type 0} (f : Place → ℕ → State → A → A) (n h : ℕ) (p : Place) (r : Stepping) (w : A) → stop_of h r.state.tables r.output ≡ None
    → after_rest f (suc n) h p r w ≡ after_rest f n h (next p) (stepped r.output (hart_step h r.state)) (f p h r.state w)
rest_next f n h p r w going = ap (λ o. unless_ended o w (after_run f (suc n) h p r w)) going

-- no step more, where something ended it
pub rest_ended : {A : Type 0} (f : Place → ℕ → State → A → A) (n h : ℕ) (p : Place) (r : Stepping) (w : A) → is_some (stop_of h r.state.tables r.output) ≡ true
    → after_rest f n h p r w ≡ w
rest_ended f n h p r w ended = go (stop_of h r.state.tables r.output) ended
  where
    go : (o : Option RunEnd) → is_some o ≡ true → unless_ended o w (after_run f n h p r w) ≡ w
    go None e = absurd (true≢false (sym e))
    go (Some how) e = refl

-- and none where none is left
pub rest_used : {A : Type 0} (f : Place → ℕ → State → A → A) (h : ℕ) (p : Place) (r : Stepping) (w : A) → after_rest f 0 h p r w ≡ w
rest_used f h p r w = go (stop_of h r.state.tables r.output)
  where
    go : (o : Option RunEnd) → unless_ended o w (after_run f 0 h p r w) ≡ w
    go None = refl
    go (Some how) = refl

-- a run, by its first step and those after it
pub run_watched : {A : Type 0} (f : Place → ℕ → State → A → A) (k n limit h : ℕ) (s : State) (r : Stepping) (w v : A) → suc n ≡ limit
    → r ≡ stepped [] (hart_step h s) → v ≡ f (at k 0) h s w
    → after_rest f n h (at k 1) r v ≡ after_run f limit h (at k 0) (begun s) w
run_watched f k n limit h s r w v all run step =
    ap (λ q. after_rest f n h (at k 1) q v) run
    ∙ ap (λ u. after_rest f n h (at k 1) (stepped [] (hart_step h s)) u) step
    ∙ ap (λ j. after_run f j h (at k 0) (begun s) w) all
