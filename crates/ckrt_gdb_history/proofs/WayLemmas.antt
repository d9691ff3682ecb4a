-- A machine on its way through all events.
use Rattle.std.proofs.Common.{◌≡◌, ℕ, List, [], ◌∷◌, ◌++◌, refl, sym, ap, ◌∙◌, subst, append_assoc}
use Rattle.std.proofs.lemmas.List.{append-nil}
use Rattle.ckrt_events.specs.declared.event.Event.{Event}
use Rattle.ckrt_events.specs.declared.event.Event.TheVariants.{Place, Run, Input, Eof, Tick, RunLong}
use Rattle.ckrt_machine.specs.declared.event.Answer.{Answer}
use Rattle.ckrt_machine.specs.declared.event.Answer.TheVariants as answer
use Rattle.ckrt_machine.specs.declared.event.RunEnd.{RunEnd}
use Rattle.ckrt_machine.specs.Steps.{State}
use Rattle.ckrt_machine.specs.Events.{AllAccepted, IsAccepted, fold, step}
use Rattle.ckrt_gdb_history.specs.Positions.{steps_of}
use Rattle.ckrt_gdb_history.specs.Engine.{steps_through}

-- BY AN ANSWER

pub by_run : (e : Event) (s : State) (made : ℕ) (how : RunEnd) → (step e s).answer ≡ answer.Ran made how → made ≡ steps_of e s
by_run (Run h n) s made how is = cc
by_run (RunLong h n) s made how is = cc
by_run (Place h t) s made how is = absurd (cc)
by_run (Input bytes) s made how is = absurd (cc)
by_run Eof s made how is = absurd (cc)
by_run (Tick t) s made how is = absurd (cc)

abbrev is_run : Answer → Type 0
is_run (answer.Ran made how) = Unit {0}
is_run _ = ⊥

pub by_other : (e : Event) (s : State) (a : Answer) → (step e s).answer ≡ a → (is_run a → ⊥) → 1 ≡ steps_of e s
by_other (Run h n) s a is other = absurd (other (subst is_run is tt))
by_other (RunLong h n) s a is other = absurd (other (subst is_run is tt))
by_other (Place h t) s a is other = refl
by_other (Input bytes) s a is other = refl
by_other Eof s a is other = refl
by_other (Tick t) s a is other = refl

-- THE WAY

-- what is ahead leads from the state now to where all events lead from the start, and the steps are noted up to here
pub record IsOnWay (ahead es : List Event) (s now : State) (steps : List ℕ) : Type 0 where
  pub state : (fold ahead now).state ≡ (fold es s).state
  pub steps_are : steps ++ steps_through ahead now ≡ steps_through es s
  pub there : AllAccepted es s → AllAccepted ahead now
  pub back : AllAccepted ahead now → AllAccepted es s

pub way_begins : (es : List Event) (s : State) → IsOnWay es es s s []
way_begins es s = record { state = refl; steps_are = refl; there = λ a. a; back = λ a. a }

pub way_next : (e : Event) (ahead es : List Event) (s now new : State) (steps more : List ℕ) → IsAccepted e now → new ≡ (step e now).state → more ≡ steps ++ steps_of e now ∷ []
    → IsOnWay (e ∷ ahead) es s now steps → IsOnWay ahead es s new more
way_next e ahead es s now new steps more accepted state noted way =
    subst (λ z. IsOnWay ahead es s z more) (sym state) (record {
      state = way.state;
      steps_are = ap (λ l. l ++ steps_through ahead (step e now).state) noted ∙ append_assoc steps (steps_of e now ∷ []) (steps_through ahead (step e now).state) ∙ way.steps_are;
      there = λ a. (way.there a).1;
      back = λ a. way.back (accepted, a);
    })

pub way_ends : (es : List Event) (s now : State) (steps : List ℕ) → IsOnWay [] es s now steps → (AllAccepted es s × (now ≡ (fold es s).state) × (steps ≡ steps_through es s))
way_ends es s now steps way = (way.back tt, way.state, sym (append-nil steps) ∙ way.steps_are)
