-- States that are kept on the way through the events.
use Rattle.std.proofs.Common.{◌≡◌, ℕ, zero, suc, ◌+◌, ◌<◌, List, [], ◌∷◌, take, drop, length, Some, slice_get, slice_set, refl, sym, ap, ◌∙◌, subst, arith, add-one, ◌≤◌}
use Rattle.ckrt_events.specs.declared.event.Event.{Event}
use Rattle.ckrt_calls.specs.WellFormed.{IsWellFormed}
use Rattle.ckrt_machine.specs.Steps.{State}
use Rattle.ckrt_machine.specs.Events.{AllAccepted, Machine, step}
use Rattle.ckrt_machine.proofs.Fixed.{same_harts_after}
use Rattle.ckrt_gdb_history.specs.Pool.{Snapshot}
use Rattle.ckrt_gdb_history.specs.declared.position.Position.{Position}
use Rattle.ckrt_gdb_history.specs.Positions.{IsPosition, at_event, state_at, state_before}
use Rattle.ckrt_gdb_history.specs.Engine.{AreSnapshots, CanBeKept, IsAt, IsBeforeEvent, IsSnapshot}
use Rattle.ckrt_gdb_history.proofs.AtLemmas.{harts_at, one_of, rests}
use Rattle.ckrt_gdb_history.proofs.PlaceLemmas.{state_next}

pub kept_in : (ks : List Snapshot) (i : ℕ) (k : Snapshot) (es : List Event) (s : State) → AreSnapshots ks es s → slice_get ks i ≡ Some k → IsSnapshot k es s
kept_in [] i k es s are is = absurd (cc)
kept_in (x ∷ ks) zero k es s are is = (let same : x ≡ k = cc in subst (λ y. IsSnapshot y es s) same are.0)
kept_in (x ∷ ks) (suc i) k es s are is = kept_in ks i k es s are.1 is

pub kept_set : (ks : List Snapshot) (i : ℕ) (k : Snapshot) (es : List Event) (s : State) → AreSnapshots ks es s → IsSnapshot k es s → AreSnapshots (slice_set ks i k) es s
kept_set [] i k es s are is = tt
kept_set (x ∷ ks) zero k es s are is = (is, are.1)
kept_set (x ∷ ks) (suc i) k es s are is = (are.0, kept_set ks i k es s are.1 is)

-- there is one in each place
pub record IsOne (ks : List Snapshot) (i : ℕ) : Type 0 where
  pub snapshot : Snapshot
  pub is : slice_get ks i ≡ Some snapshot

pub one_at : (ks : List Snapshot) (i : ℕ) → i < length ks → IsOne ks i
one_at [] i less = absurd (omega (arith, less))
one_at (x ∷ ks) zero less = record { snapshot = x; is = refl }
one_at (x ∷ ks) (suc i) less = (let there = one_at ks i (omega (arith, less)) in record { snapshot = there.snapshot; is = there.is })

-- BEFORE AN EVENT

pub snapshot_of : (k : Snapshot) (n : ℕ) (m : Machine) (es : List Event) (s : State) → k.position ≡ at_event n → k.state ≡ m.state → IsBeforeEvent n m es s → IsWellFormed m.state.tables → IsSnapshot k es s
snapshot_of k n m es s position same before well =
    let events = ap (λ (p : Position). p.events) position in
    let steps = ap (λ (p : Position). p.steps) position in
    record {
      events = omega (arith, events, before.events);
      within = λ some. absurd (omega (arith, some, steps));
      state = same ∙ before.state ∙ sym (rests (drop n es) (state_before n es s)) ∙ ap (λ p. (state_at p es s).state) (sym position);
      silent = λ some. absurd (omega (arith, some, steps));
      well_formed = subst (λ (z : State). IsWellFormed z.tables) (sym same) well;
      alike = record {
        size = ap (λ (z : State). length z.bytes) same ∙ before.size;
        harts = ap (λ (z : State). z.tables.threads.hart_count) (same ∙ before.state) ∙ same_harts_after (take n es) s;
      };
    }

-- AT A POSITION

pub snapshot_at : (k : Snapshot) (p : Position) (m : Machine) (es : List Event) (s : State) → k.position ≡ p → k.state ≡ m.state → CanBeKept m p es s → IsWellFormed m.state.tables → IsSnapshot k es s
snapshot_at k p m es s position same can well =
    let steps = ap (λ (q : Position). q.steps) position in
    let at = can.at in
    record {
      events = subst (λ (q : Position). q.events ≤ length es) (sym position) at.position.events;
      within = λ some. subst (λ q. IsPosition q es s) (sym position) at.position;
      state = same ∙ at.state ∙ ap (λ q. (state_at q es s).state) (sym position);
      silent = λ some. (let inside : 0 < p.steps = omega (arith, some, steps) in ap (λ q. (state_at q es s).output) position ∙ sym (at.output inside) ∙ can.silent inside);
      well_formed = subst (λ (z : State). IsWellFormed z.tables) (sym same) well;
      alike = record {
        size = ap (λ (z : State). length z.bytes) same ∙ can.size;
        harts = ap (λ (z : State). z.tables.threads.hart_count) same ∙ harts_at m p es s at;
      };
    }

-- a machine that becomes what is kept is there
pub at_snapshot : (k : Snapshot) (m : Machine) (es : List Event) (s : State) → AllAccepted es s → IsSnapshot k es s → m.state ≡ k.state → m.output ≡ [] → IsAt m k.position es s
at_snapshot k m es s all is state none = record {
  accepted = all;
  position = one_of k.position es s all is.events is.within;
  state = state ∙ is.state;
  output = λ some. none ∙ sym (is.silent some);
}

-- behind an event more
pub next_before : (k : ℕ) (e : Event) (m new : Machine) (es : List Event) (s : State) → k < length es → slice_get es k ≡ Some e → m.state ≡ state_before k es s → new.state ≡ (step e m.state).state → new.state ≡ state_before (k + 1) es s
next_before k e m new es s less is at made =
    made ∙ ap (λ z. (step e z).state) at ∙ sym (state_next k es s e is) ∙ ap (λ j. state_before j es s) (sym (add-one k))
