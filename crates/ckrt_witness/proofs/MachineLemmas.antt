-- Events that are applied, one behind another.
use Rattle.std.proofs.Common.{◌≡◌, ◌∙◌, Bool, true, false, Option, Some, None, IfSome, List, [], ◌∷◌, ◌++◌, ap, sym, subst, refl}
use Rattle.std.specs.Prelude.{◌≢◌, ◌||◌}
use Rattle.ckrt_events.specs.declared.event.Event.{Event}
use Rattle.ckrt_machine.specs.Events.{IsAccepted, fold, output_of, step}
use Rattle.ckrt_machine.specs.Steps.{State}
use Rattle.ckrt_machine.proofs.FoldLaws.{accepted_on, output_on, state_on}
use Rattle.ckrt_machine.specs.declared.event.Refusal.{Refusal}
use Rattle.ckrt_calls.specs.WellFormed.{IsWellFormed}
use Rattle.ckrt_witness.specs.Machine.{HasAllWaits, HasEachKind, MachineWitness, MayGoOn, WasAccepted, WereAccepted}

some_before : {X : Type 0} (xs ys : List X) → xs ≢ [] → xs ++ ys ≢ []
some_before [] ys some = λ none. some refl
some_before (x ∷ xs) ys some = λ none. absurd (cc)

some_behind : {X : Type 0} (xs ys : List X) → ys ≢ [] → xs ++ ys ≢ []
some_behind [] ys some = some
some_behind (x ∷ xs) ys some = λ none. absurd (cc)

some_of_both : {X : Type 0} (xs ys : List X) (put more : Bool) → (put ≡ true → xs ≢ []) → (more ≡ true → ys ≢ []) → (put || more) ≡ true → xs ++ ys ≢ []
some_of_both xs ys true more h k is = some_before xs ys (h refl)
some_of_both xs ys false more h k is = some_behind xs ys (k is)

pub nothing_applied : (s : State) → WereAccepted [] s s false
nothing_applied s = record { accepted = tt; state = refl; output = λ is. absurd (cc) }

pub one_applied : (es : List Event) (e : Event) (s y z : State) (put more : Bool) → WereAccepted es s y put → WasAccepted e y z more → WereAccepted (es ++ e ∷ []) s z (put || more)
one_applied es e s y z put more all one =
    let w = (fold es s).state in
    let accepted : IsAccepted e w = subst (IsAccepted e) all.state one.accepted in
    let output : more ≡ true → (step e w).output ≢ [] = subst (λ (x : State). more ≡ true → (step e x).output ≢ []) all.state one.output in
    record {
      accepted = accepted_on es e s all.accepted accepted;
      state = one.state ∙ ap (λ (x : State). (step e x).state) all.state ∙ sym (state_on es e s);
      output = λ is. subst (λ l. l ≢ []) (sym (output_on es e s)) (some_of_both (output_of es s) (step e w).output put more all.output output is);
    }

module _ (s z : State) (es : List Event) (more other : Event) where
  pub all_met : (refusal : Option Refusal) → IsWellFormed s.tables → HasEachKind es → WereAccepted es s z true → HasAllWaits z.tables → IfSome refusal (MayGoOn more other z) → IfSome refusal (λ _. MachineWitness s es)
  all_met None well_formed kinds all waits on = on
  all_met (Some refusal) well_formed kinds all waits on = record {
    well_formed = well_formed;
    accepted = all.accepted;
    put = all.output refl;
    kinds = kinds;
    waits = subst (λ (x : State). HasAllWaits x.tables) all.state waits;
    more = more;
    other = other;
    refusal = refusal;
    on = subst (λ (x : State). MayGoOn more other x refusal) all.state on;
  }
