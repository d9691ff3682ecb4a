-- The order of positions, and the next one and the one before.
use Rattle.std.proofs.Common.{◌≡◌, ◌⊎◌, ℕ, zero, suc, ◌+◌, ◌-◌, ◌<◌, ◌≤◌, Bool, true, false, nat_lt, if◌then◌else◌, List, [], ◌∷◌, length, slice_index, refl, sym, ap, ◌∙◌, subst, inl, inr, arith, add-one}
use Rattle.std.proofs.lemmas.Bool.{cases_order}
use Rattle.std.proofs.lemmas.Bool.Decides.{nat_tests}
use Rattle.ckrt_events.specs.declared.event.Event.{Event}
use Rattle.ckrt_machine.specs.Steps.{State}
use Rattle.ckrt_machine.specs.Events.{AllAccepted, step}
use Rattle.ckrt_gdb_history.specs.declared.position.Position.{Position}
use Rattle.ckrt_gdb_history.specs.Positions.{IsBefore, IsPosition, IsUpTo, at_event, last_in, next_position, positions_after, previous_in, previous_position, steps_of}
use Rattle.ckrt_gdb_history.specs.Engine.{steps_through}
use Rattle.ckrt_gdb_history.proofs.AtLemmas.{at_start_of, inside, some_after}

-- ORDER

pub up_to_itself : (p : Position) → IsUpTo p p
up_to_itself p = inr (refl, omega arith)

pub before_is_up_to : (p q : Position) → IsBefore p q → IsUpTo p q
before_is_up_to p q (inl a) = inl a
before_is_up_to p q (inr a) = (let less = a.1 in inr (a.0, omega (arith, less)))

-- two of them, one behind another
pub up_to_before : (p q r : Position) → IsUpTo p q → IsBefore q r → IsBefore p r
up_to_before p q r (inl a) (inl b) = inl (omega (arith, a, b))
up_to_before p q r (inl a) (inr b) = (let same = b.0 in inl (omega (arith, a, same)))
up_to_before p q r (inr a) (inl b) = (let same = a.0 in inl (omega (arith, b, same)))
up_to_before p q r (inr a) (inr b) = (let x = a.1 in let y = b.1 in inr (a.0 ∙ b.0, omega (arith, x, y)))

pub before_up_to : (p q r : Position) → IsBefore p q → IsUpTo q r → IsBefore p r
before_up_to p q r (inl a) (inl b) = inl (omega (arith, a, b))
before_up_to p q r (inl a) (inr b) = (let same = b.0 in inl (omega (arith, a, same)))
before_up_to p q r (inr a) (inl b) = (let same = a.0 in inl (omega (arith, b, same)))
before_up_to p q r (inr a) (inr b) = (let x = a.1 in let y = b.1 in inr (a.0 ∙ b.0, omega (arith, x, y)))

pub up_to_up_to : (p q r : Position) → IsUpTo p q → IsUpTo q r → IsUpTo p r
up_to_up_to p q r (inl a) (inl b) = inl (omega (arith, a, b))
up_to_up_to p q r (inl a) (inr b) = (let same = b.0 in inl (omega (arith, a, same)))
up_to_up_to p q r (inr a) (inl b) = (let same = a.0 in inl (omega (arith, b, same)))
up_to_up_to p q r (inr a) (inr b) = (let x = a.1 in let y = b.1 in inr (a.0 ∙ b.0, omega (arith, x, y)))

pub events_up_to : (p q : Position) → IsUpTo p q → p.events ≤ q.events
events_up_to p q (inl a) = omega (arith, a)
events_up_to p q (inr a) = (let same = a.0 in omega (arith, same))

pub not_both : (p q : Position) → IsBefore p q → IsUpTo q p → ⊥
not_both p q (inl a) (inl b) = absurd (omega (arith, a, b))
not_both p q (inl a) (inr b) = (let same = b.0 in absurd (omega (arith, a, same)))
not_both p q (inr a) (inl b) = (let same = a.0 in absurd (omega (arith, b, same)))
not_both p q (inr a) (inr b) = (let x = a.1 in let y = b.1 in absurd (omega (arith, x, y)))

-- between two positions of an event
pub within_event : (p q r : Position) → q.events ≡ p.events → IsUpTo p r → IsBefore r q → (r.events ≡ p.events) × (p.steps ≤ r.steps) × (r.steps < q.steps)
within_event p q r same (inl a) (inl b) = absurd (omega (arith, same, a, b))
within_event p q r same (inl a) (inr b) = (let there = b.0 in absurd (omega (arith, same, a, there)))
within_event p q r same (inr a) (inl b) = (let here = a.0 in absurd (omega (arith, same, here, b)))
within_event p q r same (inr a) (inr b) = (sym a.0, a.1, b.1)

by_steps : (p q : Position) → p.events ≡ q.events → (p.steps ≡ q.steps) ⊎ ((p.steps < q.steps) ⊎ (q.steps < p.steps)) → (IsBefore p q → ⊥) → IsUpTo q p
by_steps p q same (inl a) none = inr (sym same, omega (arith, a))
by_steps p q same (inr (inl a)) none = absurd (none (inr (same, a)))
by_steps p q same (inr (inr a)) none = inr (sym same, omega (arith, a))

by_events : (p q : Position) → (p.events ≡ q.events) ⊎ ((p.events < q.events) ⊎ (q.events < p.events)) → (IsBefore p q → ⊥) → IsUpTo q p
by_events p q (inl same) none = by_steps p q same (cases_order p.steps q.steps) none
by_events p q (inr (inl a)) none = absurd (none (inl a))
by_events p q (inr (inr a)) none = inl a

-- who isn't before another is there or behind it
pub not_before : (p q : Position) → (IsBefore p q → ⊥) → IsUpTo q p
not_before p q none = by_events p q (cases_order p.events q.events) none

pub same_position : (p q : Position) → p.events ≡ q.events → p.steps ≡ q.steps → p ≡ q
same_position p q events steps = λ i. record { events = events i; steps = steps i }

reach_by : (p q : Position) → p.events ≡ q.events → (p.steps ≡ q.steps) ⊎ ((p.steps < q.steps) ⊎ (q.steps < p.steps)) → IsUpTo p q ⊎ IsBefore q p
reach_by p q same (inl a) = inl (inr (same, omega (arith, a)))
reach_by p q same (inr (inl a)) = inl (inr (same, omega (arith, a)))
reach_by p q same (inr (inr a)) = inr (inr (sym same, a))

reach : (p q : Position) → (p.events ≡ q.events) ⊎ ((p.events < q.events) ⊎ (q.events < p.events)) → IsUpTo p q ⊎ IsBefore q p
reach p q (inl same) = reach_by p q same (cases_order p.steps q.steps)
reach p q (inr (inl a)) = inl (inl a)
reach p q (inr (inr a)) = inr (inl a)

pub up_or_behind : (p q : Position) → IsUpTo p q ⊎ IsBefore q p
up_or_behind p q = reach p q (cases_order p.events q.events)

-- there, or before it
pub before_or_there : (p q : Position) → IsUpTo p q → IsBefore p q ⊎ (p ≡ q)
before_or_there p q (inl a) = inl (inl a)
before_or_there p q (inr a) = at (cases_order p.steps q.steps)
  where
    at : (p.steps ≡ q.steps) ⊎ ((p.steps < q.steps) ⊎ (q.steps < p.steps)) → IsBefore p q ⊎ (p ≡ q)
    at (inl same) = inr (same_position p q a.0 same)
    at (inr (inl less)) = inl (inr (a.0, less))
    at (inr (inr more)) = (let most = a.1 in absurd (omega (arith, more, most)))

pub there : (p q : Position) → IsUpTo p q → (IsBefore p q → ⊥) → p ≡ q
there p q up none = elim (before_or_there p q up) [ inl a ↦ absurd (none a) | inr same ↦ same ]

-- THE NEXT

-- which of the two it is
data NextIs (p : Position) (es : List Event) (s : State) : Position → Type 0 where
  within : suc p.steps < positions_after p.events es s → NextIs p es s (record { events = p.events; steps = suc p.steps })
  over : positions_after p.events es s ≤ suc p.steps → NextIs p es s (at_event (suc p.events))

next_by : (b : Bool) (p : Position) (es : List Event) (s : State) → nat_lt (suc p.steps) (positions_after p.events es s) ≡ b
    → NextIs p es s (if b then record { events = p.events; steps = suc p.steps } else at_event (suc p.events))
next_by true p es s is = within (grind (arith, nat_tests, is))
next_by false p es s is = over (grind (arith, nat_tests, is))

next_is : (p : Position) (es : List Event) (s : State) → NextIs p es s (next_position p es s)
next_is p es s = next_by (nat_lt (suc p.steps) (positions_after p.events es s)) p es s refl

module _ (p : Position) (es : List Event) (s : State) where
  forth : (q : Position) → NextIs p es s q → IsBefore p q
  forth q (within less) = inr (refl, omega arith)
  forth q (over most) = inl (omega arith)

  pub next_is_behind : IsBefore p (next_position p es s)
  next_is_behind = forth (next_position p es s) (next_is p es s)

  is_one : AllAccepted es s → IsPosition p es s → p.events < length es → (q : Position) → NextIs p es s q → IsPosition q es s
  is_one all is some q (within less) = record { events = is.events; steps = less }
  is_one all is some q (over most) = at_start_of (suc p.events) es s all (omega (arith, some))

  pub next_is_one : AllAccepted es s → IsPosition p es s → p.events < length es → IsPosition (next_position p es s) es s
  next_is_one all is some = is_one all is some (next_position p es s) (next_is p es s)

  -- nothing is between
  in_event : (r : Position) → IsPosition r es s → positions_after p.events es s ≤ suc p.steps → (r.events ≡ p.events) ⊎ ((r.events < p.events) ⊎ (p.events < r.events)) → r.events < suc p.events → IsUpTo r p
  in_event r is most (inl same) less =
      let few : r.steps < positions_after p.events es s = subst (λ k. r.steps < positions_after k es s) same is.steps in
      inr (same, omega (arith, few, most))
  in_event r is most (inr (inl a)) less = inl a
  in_event r is most (inr (inr a)) less = absurd (omega (arith, a, less))

  between : (r q : Position) → IsPosition r es s → NextIs p es s q → IsBefore r q → IsUpTo r p
  between r q is (within more) (inl a) = inl a
  between r q is (within more) (inr a) = (let few = a.1 in inr (a.0, omega (arith, few)))
  between r q is (over most) (inl a) = in_event r is most (cases_order r.events p.events) a
  between r q is (over most) (inr a) = (let few = a.1 in absurd (omega (arith, few)))

  pub none_between : (r : Position) → IsPosition r es s → IsBefore r (next_position p es s) → IsUpTo r p
  none_between r is before = between r (next_position p es s) is (next_is p es s) before

  -- a position behind p isn't before the next
  pub next_up_to : (q : Position) → IsPosition q es s → IsBefore p q → IsUpTo (next_position p es s) q
  next_up_to q is before = not_before q (next_position p es s) (λ less. not_both p q before (none_between q is less))

  -- the step back
  back : IsPosition p es s → (q : Position) → NextIs p es s q → previous_position q es s ≡ p
  back is q (within less) = refl
  back is q (over most) =
      let few = is.steps in
      same_position (record { events = p.events; steps = positions_after p.events es s - 1 }) p refl (omega (arith, few, most))

  pub previous_of_next : IsPosition p es s → previous_position (next_position p es s) es s ≡ p
  previous_of_next is = back is (next_position p es s) (next_is p es s)

  -- by numbers
  pub next_within : p.steps < positions_after p.events es s - 1 → record { events = p.events; steps = p.steps + 1 } ≡ next_position p es s
  next_within less = to (next_position p es s) (next_is p es s)
    where
      to : (q : Position) → NextIs p es s q → record { events = p.events; steps = p.steps + 1 } ≡ q
      to q (within more) = same_position _ _ refl (add-one p.steps)
      to q (over most) = absurd (omega (arith, less, most))

  pub next_over : positions_after p.events es s - 1 ≤ p.steps → at_event (p.events + 1) ≡ next_position p es s
  next_over most = to (next_position p es s) (next_is p es s)
    where
      to : (q : Position) → NextIs p es s q → at_event (p.events + 1) ≡ q
      to q (within more) = absurd (omega (arith, more, most))
      to q (over all) = same_position _ _ (add-one p.events) refl

-- THE ONE BEFORE

module _ (es : List Event) (s : State) where
  -- by numbers
  pub previous_within : (p : Position) → 0 < p.steps → record { events = p.events; steps = p.steps - 1 } ≡ previous_position p es s
  previous_within p some = by p.steps p.events some
    where
      by : (n k : ℕ) → 0 < n → record { events = k; steps = n - 1 } ≡ previous_in n k es s
      by zero k some = absurd (omega arith)
      by (suc n) k some = same_position _ _ refl (omega arith)

  pub previous_first : (p : Position) → p.steps ≡ 0 → p.events ≡ 0 → p ≡ previous_position p es s
  previous_first p none first =
      let here : p ≡ at_event 0 = same_position p (at_event 0) first none in
      here ∙ ap (λ q. previous_position q es s) (sym here)

  pub previous_over : (p : Position) → p.steps ≡ 0 → 0 < p.events → record { events = p.events - 1; steps = positions_after (p.events - 1) es s - 1 } ≡ previous_position p es s
  previous_over p none some = by p.events some ∙ ap (λ n. previous_in n p.events es s) (sym none)
    where
      by : (k : ℕ) → 0 < k → record { events = k - 1; steps = positions_after (k - 1) es s - 1 } ≡ last_in k es s
      by zero some = absurd (omega arith)
      by (suc k) some = (let same : suc k - 1 ≡ k = omega arith in ap (λ j. record { events = j; steps = positions_after j es s - 1 }) same)

  at_last : (k : ℕ) → AllAccepted es s → k ≤ length es → IsPosition (last_in k es s) es s
  at_last zero all most = at_start_of 0 es s all most
  at_last (suc k) all most = (let some = some_after k es s all in record { events = omega (arith, most); steps = omega (arith, some) })

  in_event_before : (n k : ℕ) → AllAccepted es s → k ≤ length es → n < positions_after k es s → IsPosition (previous_in n k es s) es s
  in_event_before zero k all most few = at_last k all most
  in_event_before (suc n) k all most few = record { events = most; steps = omega (arith, few) }

  pub previous_is_one : (p : Position) → AllAccepted es s → IsPosition p es s → IsPosition (previous_position p es s) es s
  previous_is_one p all is = in_event_before p.steps p.events all is.events is.steps

  next_by_steps : (n k : ℕ) → AllAccepted es s → k ≤ length es → n < positions_after k es s → (n ≡ 0 → k ≡ 0 → ⊥) → next_position (previous_in n k es s) es s ≡ record { events = k; steps = n }
  next_by_steps zero zero all most few some = absurd (some refl refl)
  next_by_steps zero (suc k) all most few some = to (next_position (last_in (suc k) es s) es s) (next_is (last_in (suc k) es s) es s)
    where
      to : (q : Position) → NextIs (last_in (suc k) es s) es s q → q ≡ at_event (suc k)
      to q (within more) = absurd (omega (arith, more))
      to q (over most) = refl
  next_by_steps (suc n) k all most few some = to (next_position (record { events = k; steps = n }) es s) (next_is (record { events = k; steps = n }) es s)
    where
      to : (q : Position) → NextIs (record { events = k; steps = n }) es s q → q ≡ record { events = k; steps = suc n }
      to q (within more) = refl
      to q (over all) = absurd (omega (arith, all, few))

  pub next_of_previous : (p : Position) → AllAccepted es s → IsPosition p es s → (p.steps ≡ 0 → p.events ≡ 0 → ⊥) → next_position (previous_position p es s) es s ≡ p
  next_of_previous p all is some = next_by_steps p.steps p.events all is.events is.steps some

  inside_before : (n k : ℕ) → IsPosition (record { events = k; steps = n }) es s → (n ≡ 0 → k ≡ 0 → ⊥) → (previous_in n k es s).events < length es
  inside_before zero zero is some = absurd (some refl refl)
  inside_before zero (suc k) is some = (let most = is.events in omega (arith, most))
  inside_before (suc n) k is some = inside (record { events = k; steps = suc n }) es s is (omega arith)

  pub previous_inside : (p : Position) → IsPosition p es s → (p.steps ≡ 0 → p.events ≡ 0 → ⊥) → (previous_position p es s).events < length es
  previous_inside p is some = inside_before p.steps p.events is some

-- HOW MANY STEPS ARE LEFT

-- those of the events from the k-th on
abbrev steps_from : ℕ → List Event → State → ℕ
steps_from zero [] s = 0
steps_from zero (e ∷ es) s = steps_of e s + steps_from zero es (step e s).state
steps_from (suc k) [] s = 0
steps_from (suc k) (e ∷ es) s = steps_from k es (step e s).state

event_less : (k : ℕ) (es : List Event) (s : State) → k < length es → steps_from k es s ≡ positions_after k es s + steps_from (suc k) es s
event_less k [] s less = absurd (omega arith)
event_less zero (e ∷ es) s less = refl
event_less (suc k) (e ∷ es) s less = event_less k es (step e s).state (omega (arith, less))

abbrev pub steps_left : Position → List Event → State → ℕ
steps_left p es s = steps_from p.events es s - p.steps

module _ (p : Position) (es : List Event) (s : State) (is : IsPosition p es s) (less : p.events < length es) where
  fewer_by : (q : Position) → NextIs p es s q → steps_left q es s < steps_left p es s
  fewer_by q (within more) = (let all = event_less p.events es s less in omega (arith, all, more))
  fewer_by q (over most) = (let all = event_less p.events es s less in let few = is.steps in omega (arith, all, few))

  pub fewer_left : steps_left (next_position p es s) es s < steps_left p es s
  fewer_left = fewer_by (next_position p es s) (next_is p es s)

-- the later an event, the fewer steps from it on
one_less : (k : ℕ) (es : List Event) (s : State) → steps_from (suc k) es s ≤ steps_from k es s
one_less zero [] s = omega arith
one_less zero (e ∷ es) s = omega arith
one_less (suc k) [] s = omega arith
one_less (suc k) (e ∷ es) s = one_less k es (step e s).state

some_less : (d k : ℕ) (es : List Event) (s : State) → steps_from (d + k) es s ≤ steps_from k es s
some_less zero k es s = (let same : k ≡ 0 + k = omega arith in subst (λ i. steps_from i es s ≤ steps_from k es s) same (omega arith))
some_less (suc d) k es s =
    let same : suc (d + k) ≡ suc d + k = omega arith in
    let one = one_less (d + k) es s in
    let rest = some_less d k es s in
    subst (λ i. steps_from i es s ≤ steps_from k es s) same (omega (arith, one, rest))

no_more : (j k : ℕ) (es : List Event) (s : State) → k ≤ j → steps_from j es s ≤ steps_from k es s
no_more j k es s up = (let same : (j - k) + k ≡ j = omega (arith, up) in subst (λ i. steps_from i es s ≤ steps_from k es s) same (some_less (j - k) k es s))

pub fewer_ahead : (p q : Position) (es : List Event) (s : State) → IsPosition p es s → IsPosition q es s → p.events < length es → IsBefore p q → steps_left q es s < steps_left p es s
fewer_ahead p q es s is one some (inl a) =
    let all = event_less p.events es s some in
    let rest = no_more q.events (suc p.events) es s (omega (arith, a)) in
    let few = is.steps in
    omega (arith, all, rest, few)
fewer_ahead p q es s is one some (inr a) =
    let all = event_less p.events es s some in
    let less = a.1 in let few = is.steps in
    let same : steps_from q.events es s ≡ steps_from p.events es s = ap (λ k. steps_from k es s) (sym a.0) in
    omega (arith, all, less, few, same)

-- how many steps the event at a place makes
pub steps_index : (k : ℕ) (es : List Event) (s : State) → k < length es → slice_index (steps_through es s) k ≡ positions_after k es s
steps_index k [] s less = absurd (omega arith)
steps_index zero (e ∷ es) s less = refl
steps_index (suc k) (e ∷ es) s less = steps_index k es (step e s).state (omega (arith, less))

-- the first position is before any other
pub from_start : (p : Position) → IsUpTo (at_event 0) p
from_start p = by p.events refl
  where
    by : (n : ℕ) → p.events ≡ n → IsUpTo (at_event 0) p
    by zero is = inr (sym is, omega arith)
    by (suc n) is = inl (omega (arith, is))
