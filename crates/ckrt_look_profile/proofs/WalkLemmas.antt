-- The notes of a run's steps, one after another.
use Rattle.std.proofs.Common.{◌≡◌, ◌∙◌, ℕ, suc, List, [], ◌++◌, Option, None, Some, is_some, true, refl, sym, ap, true≢false}
use Rattle.ckrt_machine.specs.declared.event.RunEnd.{RunEnd}
use Rattle.ckrt_machine.specs.Events.{Machine}
use Rattle.ckrt_machine.specs.Runs.{stop_of, with_byte}
use Rattle.ckrt_machine.specs.Steps.{State, hart_step}
use Rattle.ckrt_look_calls.specs.Events.{state_behind}
use Rattle.ckrt_look_calls.proofs.RunLemmas.{state_next}
use Rattle.ckrt_look_profile.specs.Counts.{Counts, behind_all}
use Rattle.ckrt_look_profile.specs.Steps.{of_rest, of_run, of_step, unless_ended}
use Rattle.ckrt_look_profile.proofs.BehindLemmas.{behind_both}

-- one step more, where nothing ended the run
pub rest_next : (n h : ℕ) (s : State) (out : List ℕ) → stop_of h s.tables out ≡ None
    → of_rest (suc n) h s out ≡ of_step h s ++ of_rest n h (hart_step h s).state (with_byte (hart_step h s).put out)
rest_next n h s out going = ap (λ o. unless_ended o (of_run (suc n) h s out)) going

-- no step more, where something ended it
pub rest_ended : (n h : ℕ) (s : State) (out : List ℕ) → is_some (stop_of h s.tables out) ≡ true → of_rest n h s out ≡ []
rest_ended n h s out ended = go (stop_of h s.tables out) ended
  where
    go : (o : Option RunEnd) → is_some o ≡ true → unless_ended o (of_run n h s out) ≡ []
    go None e = absurd (true≢false (sym e))
    go (Some how) e = refl

-- and none where none is left
pub rest_used : (h : ℕ) (s : State) (out : List ℕ) → of_rest 0 h s out ≡ []
rest_used h s out = go (stop_of h s.tables out)
  where
    go : (o : Option RunEnd) → unless_ended o (of_run 0 h s out) ≡ []
    go None = refl
    go (Some how) = refl

-- a run, by its first step and those behind it
pub run_counted : (n limit h : ℕ) (s t : State) (out : List ℕ) (c : Counts) → suc n ≡ limit → t ≡ (hart_step h s).state → out ≡ with_byte (hart_step h s).put []
    → behind_all (of_rest n h t out) (behind_all (of_step h s) c) ≡ behind_all (of_run limit h s []) c
run_counted n limit h s t out c all state output =
    ap (λ (r : State). behind_all (of_rest n h r out) (behind_all (of_step h s) c)) state
    ∙ ap (λ o. behind_all (of_rest n h (hart_step h s).state o) (behind_all (of_step h s) c)) output
    ∙ sym (behind_both (of_step h s) (of_rest n h (hart_step h s).state (with_byte (hart_step h s).put [])) c)
    ∙ ap (λ j. behind_all (of_run j h s []) c) all

-- ONE STEP MORE of a run that goes on, behind some of it
module _ (more n h : ℕ) (m new : Machine) (left : more ≡ suc n) (going : stop_of h m.state.tables m.output ≡ None) (state : new.state ≡ (hart_step h m.state).state) (output : new.output ≡ with_byte (hart_step h m.state).put m.output) where
  pub more_state : state_behind n h new.state new.output ≡ state_behind more h m.state m.output
  more_state =
      ap (λ (s : State). state_behind n h s new.output) state ∙ ap (λ out. state_behind n h (hart_step h m.state).state out) output
      ∙ sym (state_next n h m.state m.output going) ∙ ap (λ j. state_behind j h m.state m.output) (sym left)

  pub more_counted : (w v : Counts) → v ≡ behind_all (of_step h m.state) w → behind_all (of_rest n h new.state new.output) v ≡ behind_all (of_rest more h m.state m.output) w
  more_counted w v is =
      let e = hart_step h m.state in
      let behind : of_rest n h new.state new.output ≡ of_rest n h e.state (with_byte e.put m.output) =
      ap (λ (s : State). of_rest n h s new.output) state ∙ ap (λ out. of_rest n h e.state out) output in
      let parts : behind_all (of_rest more h m.state m.output) w ≡ behind_all (of_rest n h new.state new.output) (behind_all (of_step h m.state) w) =
      ap (λ j. behind_all (of_rest j h m.state m.output) w) left ∙ ap (λ l. behind_all l w) (rest_next n h m.state m.output going)
      ∙ behind_both (of_step h m.state) (of_rest n h e.state (with_byte e.put m.output)) w
      ∙ ap (λ l. behind_all l (behind_all (of_step h m.state) w)) (sym behind) in
      ap (λ (x : Counts). behind_all (of_rest n h new.state new.output) x) is ∙ sym parts
