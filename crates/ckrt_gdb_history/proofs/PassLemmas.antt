-- Positions that a search passes, since there is no reason to stop.
use Rattle.std.proofs.Common.{◌≡◌, ℕ, ◌<◌, ◌==◌, ◌&&◌, not, Bool, true, false, List, [], ◌∷◌, Option, Some, None, drop, length, refl, sym, ap, ◌∙◌, subst, inl, inr, arith}
use Rattle.std.specs.List.{list_any}
use Rattle.std.specs.Option.{option_map}
use Rattle.std.proofs.lemmas.Bool.{and_left, false≢true, or_from, or_parts, true≢false}
use Rattle.std.proofs.lemmas.Bool.Decides.{nat_tests}
use Rattle.ckrt_registers.specs.Registers.{Registers}
use Rattle.ckrt_thread.specs.State.{regs_of, thread_of}
use Rattle.ckrt_events.specs.declared.event.Event.{Event}
use Rattle.ckrt_machine.specs.Steps.{State, hart_of}
use Rattle.ckrt_machine.specs.Events.{AllAccepted}
use Rattle.ckrt_machine.specs.RunsTo.{meets_for, meets_with}
use Rattle.ckrt_gdb_history.specs.declared.position.Position.{Position}
use Rattle.ckrt_gdb_history.specs.declared.reason.SeenByte.{SeenByte}
use Rattle.ckrt_gdb_history.specs.declared.stop.Breakpoint.{Breakpoint}
use Rattle.ckrt_gdb_history.specs.declared.stop.Stops.{Stops}
use Rattle.ckrt_gdb_history.specs.Positions.{History, IsBefore, IsPosition, IsUpTo, PassesNone, next_position, previous_position, run_in, state_at}
use Rattle.ckrt_gdb_history.specs.Stops.{IsStop, accesses_at, has_accessed, first_runner, is_any_hit, is_for, is_halt, is_hit, is_next_of, is_of, is_wanted, runner_in, runner_of, watched_at}
use Rattle.ckrt_gdb_history.specs.Search.{MayPass, are_there, first_meets, is_at, may_stop, meets_in, seen_at}
use Rattle.ckrt_gdb_history.specs.declared.stop.Watch.{Watch}
use Rattle.ckrt_gdb_history.proofs.AccessLemmas.{accessed_by}
use Rattle.ckrt_gdb_history.proofs.OrderLemmas.{before_is_up_to, before_or_there, before_up_to, next_is_behind, next_is_one, next_of_previous, next_up_to, none_between, not_both, previous_is_one, previous_of_next, up_to_itself}
use Rattle.ckrt_gdb_history.proofs.SeenLemmas.{same_watched}

no_hit : (t pc : ℕ) (bs : List Breakpoint) → is_at pc bs ≡ false → list_any (is_hit (t, pc)) bs ≡ false
no_hit t pc [] none = refl
no_hit t pc (b ∷ bs) none =
    let both = or_parts (b.address == pc) (is_at pc bs) none in
    or_from (is_hit (t, pc) b) (list_any (is_hit (t, pc)) bs) (and_left (b.address == pc) (is_for b.thread t) both.0) (no_hit t pc bs both.1)

no_other : (b : Bool) → not b ≡ false → b ≡ true
no_other true is = refl
no_other false is = absurd (true≢false is)

-- WHERE NO REASON IS MET

module _ (stops : Stops) (seen : List SeenByte) where
  by_registers : (o : Option Registers) (t : ℕ) (bytes : List ℕ) → is_next_of stops.thread (option_map (λ (r : Registers). (t, r.pc)) o) ≡ false
      → meets_with (may_stop stops.breakpoints.items seen) o bytes ≡ false → (is_wanted stops (option_map (λ (r : Registers). (t, r.pc)) o) ≡ false) × (are_there bytes seen ≡ true)
  by_registers None t bytes others unmet = absurd (true≢false unmet)
  by_registers (Some r) t bytes others unmet =
      let both = or_parts (is_at r.pc stops.breakpoints.items) (not (are_there bytes seen)) unmet in (
        or_from (is_any_hit (Some (t, r.pc)) stops.breakpoints.items) (is_of stops.thread (t, r.pc)) (no_hit t r.pc stops.breakpoints.items both.0) others,
        no_other (are_there bytes seen) both.1,
      )

  by_hart : (o : Option ℕ) (s : State) → is_next_of stops.thread (runner_of o s) ≡ false → meets_for (may_stop stops.breakpoints.items seen) o s ≡ false
      → (is_wanted stops (runner_of o s) ≡ false) × (are_there s.bytes seen ≡ true)
  by_hart None s others unmet = absurd (true≢false unmet)
  by_hart (Some t) s others unmet = by_registers (regs_of (thread_of s.tables.threads t)) t s.bytes others unmet

  by_run : (o : Option (ℕ × ℕ)) (s : State) → is_next_of stops.thread (runner_in o s) ≡ false → meets_in (may_stop stops.breakpoints.items seen) o s ≡ false
      → (is_wanted stops (runner_in o s) ≡ false) × (are_there s.bytes seen ≡ true)
  by_run None s others unmet = absurd (true≢false unmet)
  by_run (Some run) s others unmet = by_hart (hart_of s.tables run.0) s others unmet

  by_event : (es : List Event) (s : State) → is_next_of stops.thread (first_runner es s) ≡ false → first_meets (may_stop stops.breakpoints.items seen) es s ≡ false
      → (is_wanted stops (first_runner es s) ≡ false) × (are_there s.bytes seen ≡ true)
  by_event [] s others unmet = absurd (true≢false unmet)
  by_event (e ∷ es) s others unmet = by_run (run_in e) s others unmet

module _ (stops : Stops) (seen : List SeenByte) (h : History) (p : Position) (may : MayPass stops seen h p) where
  both_at : (is_wanted stops (first_runner (drop p.events h.events) (state_at p h.events h.start).state) ≡ false) × (are_there (state_at p h.events h.start).state.bytes seen ≡ true)
  both_at = by_event stops seen (drop p.events h.events) (state_at p h.events h.start).state may.others may.unmet

  no_halt : is_halt stops p h.events h.start ≡ true → ⊥
  no_halt halts =
      let some = may.inside in
      let inside : (p.steps == 0) ≡ false = grind (arith, nat_tests, some) in
      let ends : (stops.event_ends && p.steps == 0) ≡ false = ap (λ b. stops.event_ends && b) inside ∙ and_false stops.event_ends in
      false≢true (sym (or_from _ _ both_at.0 ends) ∙ halts)
    where
      and_false : (b : Bool) → (b && false) ≡ false
      and_false true = refl
      and_false false = refl

  still_seen : (q : Position) → seen ≡ seen_at stops.watches.items q h.events h.start → watched_at stops.watches.items p h.events h.start ≡ watched_at stops.watches.items q h.events h.start
  still_seen q is =
      same_watched (state_at q h.events h.start).state.bytes (state_at p h.events h.start).state.bytes stops.watches.items
      (subst (λ l. are_there (state_at p h.events h.start).state.bytes l ≡ true) is both_at.1)

-- A STEP, AND PAST WHAT MAY BE PASSED

module _ (stops : Stops) (seen : List SeenByte) (h : History) (p q : Position) (all : AllAccepted h.events h.start)
    (is : IsPosition p h.events h.start) (some : p.events < length h.events) (one : IsPosition q h.events h.start)
    (seen_is : seen ≡ seen_at stops.watches.items p h.events h.start)
    (free : IsBefore (next_position p h.events h.start) q → accesses_at stops.watches.items p h.events h.start ≡ false)
    (up : IsUpTo (next_position p h.events h.start) q)
    (passed : (r : Position) → IsUpTo (next_position p h.events h.start) r → IsBefore r q → MayPass stops seen h r) where
  abbrev next : Position
  next = next_position p h.events h.start

  not_first : (r : Position) → IsBefore p r → r.steps ≡ 0 → r.events ≡ 0 → ⊥
  not_first r (inl a) none first = omega (arith, a, first)
  not_first r (inr a) none first = (let less = a.1 in omega (arith, less, none))

  -- before the step to a position on the way, which is the first or is passed, no watch stops for what that loads or stores
  unseen_up_to : (r : Position) → IsPosition r h.events h.start → IsBefore p r → IsUpTo r q → (next ≡ r → accesses_at stops.watches.items p h.events h.start ≡ false)
      → accesses_at stops.watches.items (previous_position r h.events h.start) h.events h.start ≡ false
  unseen_up_to r this less reach here_none =
      let on = next_of_previous h.events h.start r all this (not_first r less) in
      let back = previous_position r h.events h.start in
      let here : IsPosition back h.events h.start = previous_is_one h.events h.start r all this in
      let behind : IsBefore back r = subst (λ x. IsBefore back x) on (next_is_behind back h.events h.start) in
      elim (before_or_there next r (next_up_to p h.events h.start r this less)) [
        | inl more ↦ (passed back (none_between back h.events h.start next (next_is_one p h.events h.start all is some) (subst (λ x. IsBefore next x) (sym on) more)) (before_up_to back r q behind reach)).unseen
        | inr same ↦ ap (λ x. accesses_at stops.watches.items (previous_position x h.events h.start) h.events h.start) (sym same) ∙ ap (λ x. accesses_at stops.watches.items x h.events h.start) (previous_of_next p h.events h.start is) ∙ here_none same
      ]

  -- before the step to a position on the way there are the same bytes as at the beginning
  before : (r : Position) → IsPosition r h.events h.start → IsBefore p r → IsUpTo r q → watched_at stops.watches.items (previous_position r h.events h.start) h.events h.start ≡ watched_at stops.watches.items p h.events h.start
  before r this less reach =
      let on = next_of_previous h.events h.start r all this (not_first r less) in
      let back = previous_position r h.events h.start in
      let here : IsPosition back h.events h.start = previous_is_one h.events h.start r all this in
      let behind : IsBefore back r = subst (λ x. IsBefore back x) on (next_is_behind back h.events h.start) in
      elim (before_or_there next r (next_up_to p h.events h.start r this less)) [
        | inl more ↦ still_seen stops seen h back (passed back (none_between back h.events h.start next (next_is_one p h.events h.start all is some) (subst (λ x. IsBefore next x) (sym on) more)) (before_up_to back r q behind reach)) p seen_is
        | inr same ↦ ap (λ x. watched_at stops.watches.items (previous_position x h.events h.start) h.events h.start) (sym same) ∙ ap (λ x. watched_at stops.watches.items x h.events h.start) (previous_of_next p h.events h.start is)
      ]

  -- and no watch stops for what the step loads or stores
  unseen : (r : Position) → IsPosition r h.events h.start → IsBefore p r → IsBefore r q → accesses_at stops.watches.items (previous_position r h.events h.start) h.events h.start ≡ false
  unseen r this less reach = unseen_up_to r this less (before_is_up_to r q reach) (λ same. free (subst (λ x. IsBefore x q) (sym same) reach))

  none : (r : Position) → IsPosition r h.events h.start → IsBefore p r → IsBefore r q → IsStop stops h r → ⊥
  none r this less more (inl halts) = no_halt stops seen h r (passed r (next_up_to p h.events h.start r this less) more) halts
  none r this less more (inr (inr accessed)) = false≢true (sym (accessed_by stops.watches.items r h.events h.start (not_first r less) ∙ unseen r this less more) ∙ accessed)
  none r this less more (inr (inl changed)) = changed (before r this less (before_is_up_to r q more) ∙ sym (still_seen stops seen h r (passed r (next_up_to p h.events h.start r this less) more) p seen_is))

  ahead : IsBefore p q
  ahead = before_up_to p next q (next_is_behind p h.events h.start) up

  pub passes : (last : Position) → IsUpTo q last → PassesNone (IsStop stops h) p last q h
  passes last within = record { is_one = one; behind = ahead; within = within; none_between = none }

  pub same_before : watched_at stops.watches.items (previous_position q h.events h.start) h.events h.start ≡ watched_at stops.watches.items p h.events h.start
  same_before = before q one ahead (up_to_itself q)

  -- the step that led there is the first, or no watch stopped for what that loaded or stored
  pub accessed_there : accesses_at stops.watches.items p h.events h.start ≡ false → has_accessed stops.watches.items q h.events h.start ≡ false
  accessed_there still =
      accessed_by stops.watches.items q h.events h.start (not_first q ahead) ∙ unseen_up_to q one ahead (up_to_itself q) (λ same. still)

-- the next position, if a watch stops for what the next step loads or stores
pub accessed_next : (ws : List Watch) (p : Position) (es : List Event) (s : State) → IsPosition p es s → has_accessed ws (next_position p es s) es s ≡ accesses_at ws p es s
accessed_next ws p es s is =
    accessed_by ws (next_position p es s) es s (later (next_position p es s) (next_is_behind p es s)) ∙ ap (λ x. accesses_at ws x es s) (previous_of_next p es s is)
  where
    later : (r : Position) → IsBefore p r → r.steps ≡ 0 → r.events ≡ 0 → ⊥
    later r (inl a) none first = omega (arith, a, first)
    later r (inr a) none first = (let less = a.1 in omega (arith, less, none))

-- A STEP ALONE, where a watch stops for what it loaded or stored

module _ (stops : Stops) (h y : History) (all : AllAccepted h.events h.start) (is : IsPosition h.position h.events h.start) (some : h.position.events < length h.events)
    (stepped : y ≡ record h { position = next_position h.position h.events h.start }) where
  pub step_history : y ≡ record h { position = y.position }
  step_history = subst (λ (x : History). x ≡ record h { position = x.position }) (sym stepped) refl

  pub step_passes : (last : Position) → IsUpTo (next_position h.position h.events h.start) last → PassesNone (IsStop stops h) h.position last y.position h
  step_passes last within =
      let there = next_position h.position h.events h.start in
      subst (λ (x : History). PassesNone (IsStop stops h) h.position last x.position h) (sym stepped)
      (record {
        is_one = next_is_one h.position h.events h.start all is some;
        behind = next_is_behind h.position h.events h.start;
        within = within;
        none_between = λ r one less before _. not_both r there before (next_up_to h.position h.events h.start r one less);
      })

  pub step_same : watched_at stops.watches.items (previous_position y.position y.events y.start) y.events y.start ≡ watched_at stops.watches.items h.position h.events h.start
  step_same =
      subst (λ (x : History). watched_at stops.watches.items (previous_position x.position x.events x.start) x.events x.start ≡ watched_at stops.watches.items h.position h.events h.start) (sym stepped)
      (ap (λ x. watched_at stops.watches.items x h.events h.start) (previous_of_next h.position h.events h.start is))

  pub step_accessed : accesses_at stops.watches.items h.position h.events h.start ≡ true → true ≡ has_accessed stops.watches.items y.position y.events y.start
  step_accessed met =
      subst (λ (x : History). true ≡ has_accessed stops.watches.items x.position x.events x.start) (sym stepped)
      (sym (accessed_next stops.watches.items h.position h.events h.start is ∙ met))

-- of another who stands elsewhere
pub may_pass_there : (stops : Stops) (seen : List SeenByte) (h y : History) (p r : Position) → y ≡ record h { position = p } → MayPass stops seen y r → MayPass stops seen h r
may_pass_there stops seen h y p r is may =
    let there : MayPass stops seen (record h { position = p }) r = subst (λ (x : History). MayPass stops seen x r) is may in
    record { inside = there.inside; others = there.others; unmet = there.unmet; unseen = there.unseen }
