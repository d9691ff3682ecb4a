-- A machine at a position, and what it is then into.
use Rattle.std.proofs.Common.{◌≡◌, ℕ, zero, suc, ◌+◌, ◌-◌, ◌<◌, ◌≤◌, false, List, [], ◌∷◌, take, drop, length, Option, Some, None, slice_get, refl, sym, ap, ◌∙◌, subst, arith, length-drop}
use Rattle.std.proofs.lemmas.Option.{slice_get_within}
use Rattle.ckrt_events.specs.declared.event.Event.{Event}
use Rattle.ckrt_events.specs.declared.event.Event.TheVariants.{RunLong}
use Rattle.ckrt_memory.specs.Reasons.{Meets}
use Rattle.ckrt_machine.specs.Steps.{State}
use Rattle.ckrt_machine.specs.Events.{AllAccepted, Machine, step}
use Rattle.ckrt_machine.proofs.Fixed.{same_harts, same_harts_after}
use Rattle.ckrt_gdb_history.specs.declared.position.Position.{Position}
use Rattle.ckrt_gdb_history.specs.Positions.{IsPosition, at_event, into_first, into_run, positions_after, positions_in, run_in, state_before, steps_in, steps_of}
use Rattle.ckrt_gdb_history.specs.Engine.{IsAt, IsInto}
use Rattle.ckrt_gdb_history.specs.Search.{first_meets, meets_at, meets_in}
use Rattle.ckrt_gdb_history.proofs.CutLemmas.{cut}
use Rattle.ckrt_gdb_history.proofs.IntoLemmas.{some_steps}
use Rattle.ckrt_gdb_history.proofs.PlaceLemmas.{state_next, accepted_at, next_ahead}

accepted_from : (k : ℕ) (es : List Event) (s : State) → AllAccepted es s → AllAccepted (drop k es) (state_before k es s)
accepted_from zero es s all = all
accepted_from (suc k) [] s all = tt
accepted_from (suc k) (e ∷ es) s all = accepted_from k es (step e s).state all.1

some_positions : (es : List Event) (s : State) → AllAccepted es s → 0 < positions_in es s
some_positions [] s all = omega arith
some_positions (e ∷ es) s all = some_steps e s all.0.in_range

-- there is a position with so many events done
pub some_after : (k : ℕ) (es : List Event) (s : State) → AllAccepted es s → 0 < positions_after k es s
some_after k es s all = some_positions (drop k es) (state_before k es s) (accepted_from k es s all)

pub at_start_of : (k : ℕ) (es : List Event) (s : State) → AllAccepted es s → k ≤ length es → IsPosition (at_event k) es s
at_start_of k es s all within = record { events = within; steps = some_after k es s all }

none_made : (o : Option (ℕ × ℕ)) (s : State) → (into_run 0 o s).state ≡ s
none_made None s = refl
none_made (Some run) s = refl

pub rests : (es : List Event) (s : State) → (into_first 0 es s).state ≡ s
rests [] s = refl
rests (e ∷ es) s = none_made (run_in e) s

-- a machine at the start of an event, or behind the last
pub at_rest_at : (k : ℕ) (es : List Event) (s : State) (m : Machine) → AllAccepted es s → k ≤ length es → m.state ≡ state_before k es s → IsAt m (at_event k) es s
at_rest_at k es s m all within is = record {
  accepted = all;
  position = at_start_of k es s all within;
  state = is ∙ sym (rests (drop k es) (state_before k es s));
  output = λ some. absurd (omega (arith, some));
}

-- inside a run there is one if it is said so
pub one_of : (p : Position) (es : List Event) (s : State) → AllAccepted es s → p.events ≤ length es → (0 < p.steps → IsPosition p es s) → IsPosition p es s
one_of p es s all within inside = by p.steps refl
  where
    at_no_step : (q : Position) → q.steps ≡ 0 → q ≡ at_event q.events
    at_no_step q is = ap (λ n. record { events = q.events; steps = n }) is

    by : (n : ℕ) → p.steps ≡ n → IsPosition p es s
    by zero is = subst (λ q. IsPosition q es s) (sym (at_no_step p is)) (at_start_of p.events es s all within)
    by (suc n) is = inside (omega (arith, is))

module _ (p : Position) (es : List Event) (s : State) (m : Machine) (e : Event) (at : IsAt m p es s) (is : slice_get es p.events ≡ Some e) where
  pub ahead : drop p.events es ≡ e ∷ drop (suc p.events) es
  ahead = next_ahead p.events es e is

  pub into_of : IsInto p.steps e (state_before p.events es s) m
  into_of = record {
    accepted = accepted_at p.events es s e at.accepted is;
    few = subst (λ l. p.steps < positions_in l (state_before p.events es s)) ahead at.position.steps;
    state = at.state ∙ ap (λ l. (into_first p.steps l (state_before p.events es s)).state) ahead;
    output = λ some. at.output some ∙ ap (λ l. (into_first p.steps l (state_before p.events es s)).output) ahead;
  }

  -- behind the event
  pub behind_event : (new : Machine) → new.state ≡ (step e (state_before p.events es s)).state → IsAt new (at_event (p.events + 1)) es s
  behind_event new made =
      let within = slice_get_within es p.events e is in
      let next : suc p.events ≡ p.events + 1 = omega arith in
      at_rest_at (p.events + 1) es s new at.accepted (omega (arith, within)) (made ∙ sym (state_next p.events es s e is) ∙ ap (λ k. state_before k es s) next)

  pub steps_ahead : positions_after p.events es s ≡ steps_of e (state_before p.events es s)
  steps_ahead = ap (λ l. positions_in l (state_before p.events es s)) ahead

  -- further into the same event
  pub further_at : (k : ℕ) (new : Machine) → IsInto k e (state_before p.events es s) new → IsAt new (record { events = p.events; steps = k }) es s
  further_at k new into = record {
    accepted = at.accepted;
    position = record { events = at.position.events; steps = subst (λ l. k < positions_in l (state_before p.events es s)) (sym ahead) into.few };
    state = into.state ∙ ap (λ l. (into_first k l (state_before p.events es s)).state) (sym ahead);
    output = λ some. into.output some ∙ ap (λ l. (into_first k l (state_before p.events es s)).output) (sym ahead);
  }

  -- a reason isn't met at a position of the event
  pub not_met_at : (meets : Meets) (r : Position) → r.events ≡ p.events → meets_in meets (run_in e) (into_run r.steps (run_in e) (state_before p.events es s)).state ≡ false → meets_at meets r es s ≡ false
  not_met_at meets r same not =
      subst (λ k. first_meets meets (drop k es) (into_first r.steps (drop k es) (state_before k es s)).state ≡ false) (sym same)
      (subst (λ l. first_meets meets l (into_first r.steps l (state_before p.events es s)).state ≡ false) (sym ahead) not)

-- a position inside an event isn't behind the last
inside_by : (l : List Event) (k n : ℕ) (es : List Event) (s : State) → drop k es ≡ l → 0 < n → n < positions_in l s → k < length es
inside_by [] k n es s is some few = absurd (omega (arith, few, some))
inside_by (e ∷ l) k n es s is some few = (let left : length es - k ≡ suc (length l) = sym (length-drop k es) ∙ ap length is in omega (arith, left))

pub inside : (p : Position) (es : List Event) (s : State) → IsPosition p es s → 0 < p.steps → p.events < length es
inside p es s is some = inside_by (drop p.events es) p.events p.steps es (state_before p.events es s) refl some is.steps

-- THE NUMBER OF HARTS

harts_in : (k : ℕ) (o : Option (ℕ × ℕ)) (s : State) → k < steps_in o s → (into_run k o s).state.tables.threads.hart_count ≡ s.tables.threads.hart_count
harts_in k None s few = refl
harts_in k (Some run) s few =
    sym (ap (λ r. r.state.tables.threads.hart_count) (cut k run.1 run.0 s [] few).part) ∙ same_harts (RunLong run.0 k) s

harts_first : (k : ℕ) (es : List Event) (s : State) → k < positions_in es s → (into_first k es s).state.tables.threads.hart_count ≡ s.tables.threads.hart_count
harts_first k [] s few = refl
harts_first k (e ∷ es) s few = harts_in k (run_in e) s few

pub harts_at : (m : Machine) (p : Position) (es : List Event) (s : State) → IsAt m p es s → m.state.tables.threads.hart_count ≡ s.tables.threads.hart_count
harts_at m p es s at =
    ap (λ z. z.tables.threads.hart_count) at.state
    ∙ harts_first p.steps (drop p.events es) (state_before p.events es s) at.position.steps
    ∙ same_harts_after (take p.events es) s
