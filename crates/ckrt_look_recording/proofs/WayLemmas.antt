-- A machine that goes through events, each of which is to be accepted at its turn.
use Rattle.std.proofs.Common.{◌≡◌, ℕ, zero, suc, ◌+◌, List, [], ◌∷◌, ◌++◌, take, drop, Some, slice_get, sym, ◌∙◌, ap, subst, add-one}
use Rattle.std.proofs.lemmas.List.{take-append-drop}
use Rattle.ckrt_events.specs.declared.event.Event.{Event}
use Rattle.ckrt_machine.specs.Steps.{State}
use Rattle.ckrt_machine.specs.Events.{AllAccepted, IsAccepted, fold, step}

-- the events from a place on
ahead : (k : ℕ) (es : List Event) (e : Event) → slice_get es k ≡ Some e → drop k es ≡ e ∷ drop (suc k) es
ahead k [] e is = absurd (cc)
ahead zero (x ∷ es) e is = (let same : x ≡ e = cc in ap (λ y. y ∷ es) same)
ahead (suc k) (x ∷ es) e is = ahead k es e is

pub next_ahead : (k : ℕ) (es : List Event) (e : Event) → slice_get es k ≡ Some e → drop k es ≡ e ∷ drop (k + 1) es
next_ahead k es e is = ahead k es e is ∙ ap (λ j. e ∷ drop j es) (sym (add-one k))

-- what is ahead leads from the state now to where all lead from the start, and is accepted where they are
pub record IsOnWay (ahead es : List Event) (s now : State) : Type 0 where
  pub state : (fold ahead now).state ≡ (fold es s).state
  pub accepted : AllAccepted es s → AllAccepted ahead now

pub way_next : (e : Event) (ahead es : List Event) (s now new : State) → new ≡ (step e now).state → IsOnWay (e ∷ ahead) es s now → IsOnWay ahead es s new
way_next e ahead es s now new is way = subst (IsOnWay ahead es s) (sym is) (record { state = way.state; accepted = λ all. (way.accepted all).1 })

-- and what has been made of them was accepted
pub record HasComeTo (ahead es : List Event) (s now : State) : Type 0 where
  pub way : IsOnWay ahead es s now
  pub accepted : AllAccepted ahead now → AllAccepted es s

pub come_next : (e : Event) (ahead es : List Event) (s now new : State) → IsAccepted e now → new ≡ (step e now).state → HasComeTo (e ∷ ahead) es s now → HasComeTo ahead es s new
come_next e ahead es s now new accepted is come = record {
  way = way_next e ahead es s now new is come.way;
  accepted = λ rest. come.accepted (accepted, subst (λ (z : State). AllAccepted ahead z) is rest);
}

-- what comes first of events that are accepted is accepted, and what comes behind it too
pub accepted_first : (n : ℕ) (es : List Event) (s : State) → AllAccepted es s → AllAccepted (take n es) s
accepted_first n es s all = front (take n es) (drop n es) s (subst (λ (l : List Event). AllAccepted l s) (sym (take-append-drop n es)) all)
  where
    front : (xs ys : List Event) (s : State) → AllAccepted (xs ++ ys) s → AllAccepted xs s
    front [] ys s all = tt
    front (x ∷ xs) ys s all = (all.0, front xs ys (step x s).state all.1)

pub accepted_behind : (n : ℕ) (es : List Event) (s : State) → AllAccepted es s → AllAccepted (drop n es) (fold (take n es) s).state
accepted_behind n es s all = back (take n es) (drop n es) s (subst (λ (l : List Event). AllAccepted l s) (sym (take-append-drop n es)) all)
  where
    back : (xs ys : List Event) (s : State) → AllAccepted (xs ++ ys) s → AllAccepted ys (fold xs s).state
    back [] ys s all = all
    back (x ∷ xs) ys s all = back xs ys (step x s).state all.1
