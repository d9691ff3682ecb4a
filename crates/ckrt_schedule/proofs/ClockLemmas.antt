-- The clock goes on: each round has a place for it, where the event is a tick or one of an input.
use Rattle.std.proofs.Common.{◌≡◌, ◌∙◌, ◌==◌, ◌+◌, ◌*◌, ◌/◌, ◌%◌, ◌<◌, ◌≤◌, ◌⊎◌, inl, inr, ℕ, Bool, true, false, cond, Option, Some, None, List, [], ◌∷◌, length, ap, sym, subst, arith, refl}
use Rattle.std.proofs.lemmas.Bool.Decides.{nat_tests}
use Rattle.std.proofs.Math.Nat.{add-mul, add-mul-div_right, mod-lt, div-add-mod', div-lt_iff_lt-mul, le-div_iff_mul-le, lt-div-mul-add}
use Rattle.ckrt_calls.specs.declared.table.Tables.{Tables}
use Rattle.ckrt_events.specs.declared.event.Event.{Event}
use Rattle.ckrt_events.specs.declared.event.Event.TheVariants.{Tick}
use Rattle.ckrt_machine.specs.Steps.{State}
use Rattle.ckrt_machine.specs.Runs.{is_running}
use Rattle.ckrt_machine.specs.Events.{step, fold}
use Rattle.ckrt_machine.specs.Stays.{ClockGoesByTicks, ticks_of}
use Rattle.ckrt_machine.proofs.Fixed.{same_harts}
use Rattle.ckrt_schedule.specs.declared.next.Next.TheVariants.{Submit}
use Rattle.ckrt_schedule.specs.declared.schedule.Schedule.{Schedule}
use Rattle.ckrt_schedule.specs.declared.schedule.Sought.TheVariants.{Busy}
use Rattle.ckrt_schedule.specs.declared.schedule.Turn.{Turn}
use Rattle.ckrt_schedule.specs.Schedules.{earliest_deadline, event_at, idle_until, next_by, next_event, next_sought, of_runner, places_of, runner_at, ticks_to, turn_at}
use Rattle.ckrt_schedule.specs.Turns.{AreScheduled, ClockComes, given_among, is_given}
use Rattle.ckrt_schedule.proofs.TurnLemmas.{of_running, place_of_turn, same_event}

-- THE EVENT AT THE CLOCK'S PLACE is a tick

tick_of_idle : (o : Option ℕ) (s : Tables) (e : Event) → idle_until o s ≡ Submit e → 1 ≤ ticks_of e
tick_of_idle None s e h = absurd (cc)
tick_of_idle (Some d) s e h =
    let is : Tick (ticks_to d s.clock) ≡ e = same_event (Tick (ticks_to d s.clock)) e h in
    subst (λ (x : Event). 1 ≤ ticks_of x) is (omega arith)

tick_of_event : (turn : Turn) (least : ℕ) (s : Tables) (e : Event) → (turn.place == 2 * s.threads.hart_count) ≡ true → event_at turn least s ≡ e → 1 ≤ ticks_of e
tick_of_event turn least s e last is =
    let tick : event_at turn least s ≡ Tick 1 = ap (λ b. cond b (Tick 1) (of_runner (runner_at turn s) turn least s)) last in
    subst (λ (x : Event). 1 ≤ ticks_of x) (sym tick ∙ is) (omega arith)

tick_by : (least : Option ℕ) (turn : Turn) (s : Tables) (e : Event) → (turn.place == 2 * s.threads.hart_count) ≡ true → next_by least turn s ≡ Submit e → 1 ≤ ticks_of e
tick_by None turn s e last h = tick_of_idle (earliest_deadline s.threads.waits) s e h
tick_by (Some least) turn s e last h = tick_of_event turn least s e last (same_event (event_at turn least s) e h)

tick_at : (u : Schedule) (n : ℕ) (s : Tables) (e : Event) → (n % places_of s == 2 * s.threads.hart_count) ≡ true → next_event u None n s ≡ Submit e → 1 ≤ ticks_of e
tick_at u n s e last h =
    let scheduled = (of_running (is_running s.status) (next_by (next_sought Busy 0 s) (turn_at u n s) s) e h).1 in
    let place = place_of_turn u.seed u.turn (n % places_of s) n s.threads.hart_count in
    tick_by (next_sought Busy 0 s) (turn_at u n s) s e (subst (λ p. (p == 2 * s.threads.hart_count) ≡ true) (sym place) last) scheduled

-- ROUNDS THAT HAVE ENDED: n / places of them after n events

-- one event ends one at most
one_ends : (n places : ℕ) → 0 < places → (n + 1) / places ≤ n / places + 1
one_ends n places some =
    let q = n / places in
    let below : n < q * places + places = lt-div-mul-add some in
    let two : (q + 2) * places ≡ q * places + 2 * places = add-mul q 2 places in
    let less : (n + 1) / places < q + 2 = (div-lt_iff_lt-mul some).1 (omega (arith, below, two)) in
    omega (arith, less)

-- and only one at the last place does
none_ends : (n places : ℕ) → 0 < places → n % places + 1 < places → (n + 1) / places ≤ n / places
none_ends n places some early =
    let q = n / places in
    let whole : q * places + n % places ≡ n = div-add-mod' n places in
    let more : (q + 1) * places ≡ q * places + 1 * places = add-mul q 1 places in
    let less : (n + 1) / places < q + 1 = (div-lt_iff_lt-mul some).1 (omega (arith, whole, more, early)) in
    omega (arith, less)

-- of k rounds' events each ends k at least
many_end : (n k m places : ℕ) → 0 < places → k * places ≤ m → n / places + k ≤ (n + m) / places
many_end n k m places some long =
    let sum : (n + k * places) / places ≡ n / places + k = add-mul-div_right n k some in
    let at : (n / places + k) * places ≤ n + k * places = (le-div_iff_mul-le some).0 (omega (arith, sum)) in
    (le-div_iff_mul-le some).1 (omega (arith, at, long))

-- THE CLOCK

module _ (by_ticks : ClockGoesByTicks) (u : Schedule) (harts : ℕ) where
  -- an event takes the clock on by one, where it ends a round and isn't of an input
  ticks : (n : ℕ) (e : Event) (s : State) → s.tables.threads.hart_count ≡ harts → (is_given e ≡ true) ⊎ (next_event u None n s.tables ≡ Submit e)
      → s.tables.clock + (n + 1) / (2 * harts + 1) ≤ (step e s).state.tables.clock + n / (2 * harts + 1) + cond {A = ℕ} (is_given e) 1 0
  ticks n e s same (inl given) =
      let on = by_ticks e s in
      let ends = one_ends n (2 * harts + 1) (omega arith) in
      let counts : cond {A = ℕ} (is_given e) 1 0 ≡ 1 = ap (λ b. cond b 1 0) given in
      omega (arith, on, ends, counts)
  ticks n e s same (inr next) = at (n % (2 * harts + 1) == 2 * harts) refl
    where
      at : (b : Bool) → (n % (2 * harts + 1) == 2 * harts) ≡ b → s.tables.clock + (n + 1) / (2 * harts + 1) ≤ (step e s).state.tables.clock + n / (2 * harts + 1) + cond {A = ℕ} (is_given e) 1 0
      at true last =
          let on = by_ticks e s in
          let ends = one_ends n (2 * harts + 1) (omega arith) in
          let tick = tick_at u n s.tables e (subst (λ h. (n % (2 * h + 1) == 2 * h) ≡ true) (sym same) last) next in
          omega (arith, on, ends, tick)
      at false other =
          let on = by_ticks e s in
          let within : n % (2 * harts + 1) < 2 * harts + 1 = mod-lt n (omega arith) in
          let early : n % (2 * harts + 1) + 1 < 2 * harts + 1 = grind (arith, nat_tests) in
          let ends = none_ends n (2 * harts + 1) (omega arith) early in
          omega (arith, on, ends)

  goes_on : (n : ℕ) (es : List Event) (s : State) → s.tables.threads.hart_count ≡ harts → AreScheduled u n es s
      → s.tables.clock + (n + length es) / (2 * harts + 1) ≤ (fold es s).state.tables.clock + n / (2 * harts + 1) + given_among es
  goes_on n [] s same scheduled = let all : n + 0 ≡ n = omega arith in subst (λ m. s.tables.clock + m / (2 * harts + 1) ≤ s.tables.clock + n / (2 * harts + 1) + 0) (sym all) (omega arith)
  goes_on n (e ∷ es) s same scheduled =
      let one = ticks n e s same scheduled.0 in
      let more = goes_on (n + 1) es (step e s).state (same_harts e s ∙ same) scheduled.1 in
      let all : n + length (e ∷ es) ≡ n + 1 + length es = omega arith in
      let ended = ap (λ m. m / (2 * harts + 1)) all in
      omega (arith, one, more, ended)

-- that the clock goes by ticks is all that is left to show of it
pub clock_comes : ClockGoesByTicks → ClockComes
clock_comes by_ticks u n d es s scheduled long =
    let on = goes_on by_ticks u s.tables.threads.hart_count n es s refl scheduled in
    let rounds = many_end n (d + given_among es) (length es) (places_of s.tables) (omega arith) long in
    omega (arith, on, rounds)
