-- Events one after another, and where each begins.
use Rattle.std.proofs.Common.{◌≡◌, ◌∙◌, ◌<◌, ◌+◌, ℕ, suc, List, [], ◌∷◌, ◌++◌, length, length-append, refl, sym, ap, append_assoc, arith}
use Rattle.ckrt_events.specs.declared.event.Event.{Event}
use Rattle.ckrt_machine.specs.Events.{step}
use Rattle.ckrt_machine.specs.Steps.{State}
use Rattle.ckrt_look_timeline.specs.declared.timeline.Timeline.{Timeline}
use Rattle.ckrt_look_timeline.specs.Tracks.{AreUpTo, GoesOn, IsWhole, begins_of, in_event, in_events, steps_in, track_in}

module _ (e : Event) (rest ahead : List Event) (m z : State) (old new : Timeline) (is : ahead ≡ e ∷ rest) (state : z ≡ (step e m).state) (whole : IsWhole old) (on : GoesOn (λ i. in_event (i + 1) e m) old new) where
  -- an event more of what each thread does
  pub tracks_next : (i : ℕ) → i < 64 → track_in new i ++ in_events (i + 1) rest z ≡ track_in old i ++ in_events (i + 1) ahead m
  tracks_next i less =
      ap (λ l. l ++ in_events (i + 1) rest z) (on.tracks i less) ∙ append_assoc (track_in old i) (in_event (i + 1) e m) (in_events (i + 1) rest z)
      ∙ ap (λ (y : State). track_in old i ++ (in_event (i + 1) e m ++ in_events (i + 1) rest y)) state ∙ ap (λ (l : List Event). track_in old i ++ in_events (i + 1) l m) (sym is)

  -- its steps
  pub steps_next : new.steps ≡ old.steps + steps_in e m
  steps_next =
      sym (on.whole.even 0 (omega arith)) ∙ ap (λ l. length l) (on.tracks 0 (omega arith)) ∙ length-append (track_in old 0) (in_event 1 e m)
      ∙ ap (λ k. k + steps_in e m) (whole.even 0 (omega arith))

  -- and where it begins
  pub begins_next : (xs ys : List ℕ) → ys ≡ xs ++ old.steps ∷ [] → ys ++ begins_of new.steps rest z ≡ xs ++ begins_of old.steps ahead m
  begins_next xs ys grown =
      ap (λ l. l ++ begins_of new.steps rest z) grown ∙ append_assoc xs (old.steps ∷ []) (begins_of new.steps rest z)
      ∙ ap (λ k. xs ++ (old.steps ∷ begins_of k rest z)) steps_next ∙ ap (λ (y : State). xs ++ (old.steps ∷ begins_of (old.steps + steps_in e m) rest y)) state
      ∙ ap (λ (l : List Event). xs ++ begins_of old.steps l m) (sym is)

-- one begin for each event
pub begins_each : (x : ℕ) (es : List Event) (s : State) → length (begins_of x es s) ≡ length es
begins_each x [] s = refl
begins_each x (e ∷ es) s = ap suc (begins_each (x + steps_in e s) es (step e s).state)

-- none behind the last step
pub begins_within : (x most : ℕ) (es : List Event) (s : State) → most ≡ x + length (in_events 1 es s) → AreUpTo most (begins_of x es s)
begins_within x most [] s is = tt
begins_within x most (e ∷ es) s is =
    let behind : length (in_events 1 (e ∷ es) s) ≡ steps_in e s + length (in_events 1 es (step e s).state) = length-append (in_event 1 e s) (in_events 1 es (step e s).state) in
    (omega (arith, is), begins_within (x + steps_in e s) most es (step e s).state (omega (arith, is, behind)))
