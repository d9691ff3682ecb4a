-- Events before a place, and the first steps of the next one.
use Rattle.std.proofs.Common.{ℕ, ◌≡◌, ◌≤◌, ◌==◌, ◌∙◌, Bool, true, false, if◌then◌else◌, ◌-◌, List, [], ◌∷◌, ◌++◌, zero, suc, Some, None, ap, drop, length, min, refl, subst, sym, take, arith}
use Rattle.std.proofs.lemmas.Bool.Decides.{nat_tests}
use Rattle.std.proofs.lemmas.List.{take_min}
use Rattle.ckrt_events.specs.declared.event.Event.{Event}
use Rattle.ckrt_events.specs.declared.event.Event.TheVariants.{Place, Run, Input, Eof, Tick, RunLong}
use Rattle.ckrt_machine.specs.Events.{AllAccepted, IsAccepted, fold, refusal_of, step}
use Rattle.ckrt_machine.specs.Steps.{State}
use Rattle.ckrt_look_recording.proofs.WayLemmas.{accepted_behind}
use Rattle.ckrt_look_calls.specs.Replays.{first_steps, steps_of}

pub events_between : (from to : ℕ) (xs rest some : List Event) → rest ≡ drop from xs → some ≡ take (to - from) rest → some ≡ take (to - from) (drop from xs)
events_between from to xs rest some behind is = is ∙ ap (λ (l : List Event). take (to - from) l) behind

-- the first steps of a run that is accepted are accepted
few_steps : (n h most : ℕ) (s : State) → (n == 0) ≡ false → h ≤ 7 → 1 ≤ most → most ≤ 1000000 → refusal_of 0 (RunLong h most) s ≡ None → IsAccepted (RunLong h (min n most)) s
few_steps n h most s some hart least less accepted = record {
  in_range = (hart, grind (arith, nat_tests, some, least), omega (arith, less));
  accepted = accepted;
}

of_run : (n h most : ℕ) (r : Event) (s : State) (t : Bool) → (n == 0) ≡ t → (if t then None else Some (RunLong h (min n most))) ≡ Some r → h ≤ 7 → 1 ≤ most → most ≤ 1000000
    → refusal_of 0 (RunLong h most) s ≡ None → IsAccepted r s
of_run n h most r s true e is hart least less accepted = absurd (cc)
of_run n h most r s false e is hart least less accepted = (let same : RunLong h (min n most) ≡ r = cc in subst (λ (q : Event). IsAccepted q s) same (few_steps n h most s e hart least less accepted))

of_event : (n : ℕ) (e r : Event) (s : State) → steps_of n e ≡ Some r → IsAccepted e s → IsAccepted r s
of_event n (Run h most) r s is accepted =
    let range = accepted.in_range in
    of_run n h most r s (n == 0) refl is range.0 range.1 (omega (arith, range.2)) accepted.accepted
of_event n (RunLong h most) r s is accepted =
    let range = accepted.in_range in
    of_run n h most r s (n == 0) refl is range.0 range.1 range.2 accepted.accepted
of_event n (Place h t) r s is accepted = absurd (cc)
of_event n (Input bytes) r s is accepted = absurd (cc)
of_event n Eof r s is accepted = absurd (cc)
of_event n (Tick k) r s is accepted = absurd (cc)

pub first_accepted : (n : ℕ) (es : List Event) (r : Event) (s : State) → first_steps n es ≡ Some r → AllAccepted es s → IsAccepted r s
first_accepted n [] r s is all = absurd (cc)
first_accepted n (e ∷ es) r s is all = of_event n e r s is all.0

-- events that are made one after another
folded_both : (xs ys : List Event) (s : State) → (fold (xs ++ ys) s).state ≡ (fold ys (fold xs s).state).state
folded_both [] ys s = refl
folded_both (x ∷ xs) ys s = folded_both xs ys (step x s).state

nothing_taken : (k : ℕ) → (let none : List Event = [] in none) ≡ take k []
nothing_taken zero = refl
nothing_taken (suc k) = refl

less_none : (n : ℕ) → n ≡ n - 0
less_none n = omega arith

less_one_each : (m n : ℕ) → n - m ≡ suc n - suc m
less_one_each m n = omega arith

front_in_two : (m n : ℕ) (xs : List Event) → m ≤ n → take n xs ≡ take m xs ++ take (n - m) (drop m xs)
front_in_two zero n xs le = ap (λ (k : ℕ). take k xs) (less_none n)
front_in_two (suc m) zero xs le = absurd (omega (arith, le))
front_in_two (suc m) (suc n) [] le = nothing_taken (suc n - suc m)
front_in_two (suc m) (suc n) (x ∷ xs) le =
    ap (λ (l : List Event). x ∷ l) (front_in_two m n xs (omega (arith, le)) ∙ ap (λ (k : ℕ). take m xs ++ take k (drop m xs)) (less_one_each m n))

pub folded_on : (m n : ℕ) (xs : List Event) (s : State) → m ≤ n → (fold (take (n - m) (drop m xs)) (fold (take m xs) s).state).state ≡ (fold (take n xs) s).state
folded_on m n xs s le =
    sym (ap (λ (l : List Event). (fold l s).state) (front_in_two m n xs le) ∙ folded_both (take m xs) (take (n - m) (drop m xs)) s)

-- what is ahead of a place is accepted there
pub ahead_accepted : (made n : ℕ) (es : List Event) (s there : State) → AllAccepted es s → n ≡ min made (length es) → there ≡ (fold (take n es) s).state → AllAccepted (drop made es) there
ahead_accepted made n es s there all is at =
    let here : there ≡ (fold (take made es) s).state = at ∙ ap (λ (k : ℕ). (fold (take k es) s).state) is ∙ ap (λ (l : List Event). (fold l s).state) (take_min made es) in
    subst (λ (z : State). AllAccepted (drop made es) z) (sym here) (accepted_behind made es s all)
