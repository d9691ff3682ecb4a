-- Events of a schedule, one behind another.
use Rattle.std.proofs.Common.{◌≡◌, inr, ◌∙◌, ◌+◌, ℕ, Bool, true, false, if◌then◌else◌, List, [], ◌∷◌, ◌++◌, length, ap, sym, subst, refl, arith, length-append, None}
use Rattle.ckrt_events.specs.declared.event.Event.{Event}
use Rattle.ckrt_machine.specs.Events.{fold, step}
use Rattle.ckrt_machine.specs.Steps.{State}
use Rattle.ckrt_machine.proofs.FoldLaws.{state_on}
use Rattle.ckrt_schedule.specs.declared.next.Next.TheVariants.{Submit}
use Rattle.ckrt_schedule.specs.declared.schedule.Schedule.{Schedule}
use Rattle.ckrt_schedule.specs.Schedules.{next_event}
use Rattle.ckrt_schedule.specs.Turns.{AreScheduled, given_among, is_given}
use Rattle.ckrt_witness.specs.Turns.{Makes, MakesAll}

module _ (u : Schedule) where
  one_more : (n : ℕ) (es : List Event) (e : Event) (s : State) → AreScheduled u n es s
      → next_event u None (n + length es) (fold es s).state.tables ≡ Submit e → AreScheduled u n (es ++ e ∷ []) s
  one_more n [] e s h next =
      let here : n + 0 ≡ n = omega arith in
      (inr (subst (λ k. next_event u None k s.tables ≡ Submit e) here next), tt)
  one_more n (x ∷ es) e s h next =
      let there : n + length (x ∷ es) ≡ n + 1 + length es = omega arith in
      (h.0, one_more (n + 1) es e (step x s).state h.1 (subst (λ k. next_event u None k (fold es (step x s).state).state.tables ≡ Submit e) there next))

none_more : (es : List Event) (e : Event) → given_among es ≡ 0 → is_given e ≡ false → given_among (es ++ e ∷ []) ≡ 0
none_more [] e h is = rw is refl
none_more (x ∷ es) e h is = by_test (is_given x) h (none_more es e)
  where
    by_test : (b : Bool) → (if b then 1 else 0) + given_among es ≡ 0 → (given_among es ≡ 0 → is_given e ≡ false → given_among (es ++ e ∷ []) ≡ 0) → (if b then 1 else 0) + given_among (es ++ e ∷ []) ≡ 0
    by_test true h more = absurd (omega (arith, h))
    by_test false h more =
        let none : given_among es ≡ 0 = omega (arith, h) in
        let still : given_among (es ++ e ∷ []) ≡ 0 = more none is in
        omega (arith, still)

pub nothing_made : (u : Schedule) (s : State) → MakesAll u 0 s s
nothing_made u s = record { events = []; scheduled = tt; given = refl; many = refl; state = refl }

pub one_made : (u : Schedule) (n : ℕ) (s y z : State) → MakesAll u n s y → Makes u n y z → MakesAll u (n + 1) s z
one_made u n s y z all one =
    let es = all.events in
    let here : n ≡ 0 + length es = omega (arith, all.many) in
    let next = subst (λ (x : State). next_event u None n x.tables ≡ Submit one.event) all.state one.next in
    record {
      events = es ++ one.event ∷ [];
      scheduled = one_more u 0 es one.event s all.scheduled (subst (λ k. next_event u None k (fold es s).state.tables ≡ Submit one.event) here next);
      given = none_more es one.event all.given one.given;
      many = length-append es (one.event ∷ []) ∙ ap (λ k. k + 1) all.many;
      state = one.state ∙ ap (λ (x : State). (step one.event x).state) all.state ∙ sym (state_on es one.event s);
    }
