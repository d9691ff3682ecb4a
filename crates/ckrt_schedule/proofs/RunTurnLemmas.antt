-- Without a seed each thread that is ready or on a hart runs within 65 rounds and an event.
use Rattle.std.proofs.Common.{◌≡◌, ◌⊎◌, inl, inr, ◌∙◌, ◌==◌, ◌+◌, ◌-◌, ◌*◌, ◌/◌, ◌%◌, ◌<◌, ◌≤◌, ◌&&◌, ◌||◌, ℕ, zero, suc, nat_le, nat_lt, Bool, true, false, cond, eqb, Option, Some, None, is_some, List, [], ◌∷◌, length, ap, sym, subst, arith, refl, slice_get}
use Rattle.std.specs.Prelude.{unwrap_or}
use Rattle.std.specs.Option.{option_flatten}
use Rattle.std.proofs.lemmas.Bool.Decides.{nat_tests}
use Rattle.std.proofs.lemmas.List.{length-set}
use Rattle.std.proofs.Math.Nat.{add-mul, div-add-mod', mod-eq_of_lt, mod-lt, mul-add-mod_self_right}
use Rattle.ckrt_thread.specs.State as threads
use Rattle.ckrt_thread.proofs.Known.{live_range, ready_live}
use Rattle.ckrt_thread.proofs.SlotLemmas.{slot_at}
use Rattle.ckrt_calls.specs.declared.table.Tables.{Tables}
use Rattle.ckrt_events.specs.Bytes.{RUN_LIMIT}
use Rattle.ckrt_events.specs.declared.event.Event.{Event}
use Rattle.ckrt_events.specs.declared.event.Event.TheVariants.{Place, Run, Tick, RunLong}
use Rattle.ckrt_machine.specs.Steps.{State, hart_of}
use Rattle.ckrt_machine.specs.Runs.{is_running}
use Rattle.ckrt_machine.specs.Events.{step}
use Rattle.ckrt_machine.specs.Plans.{next_ready, or_else, planned}
use Rattle.ckrt_machine.specs.Stays.{IsOnHart, is_of_hart, is_placing}
use Rattle.ckrt_machine.proofs.Fixed.{same_harts}
use Rattle.ckrt_machine.proofs.PlanLaws.{next_is_ready, ready_found}
use Rattle.ckrt_machine.proofs.StayEvents.{has_hart, holds_it, off_harts, on_hart_of, placed_there, same_room, same_room_on_hart, stay_on_hart, stay_ready, taken_off}
use Rattle.ckrt_schedule.specs.declared.next.Next.TheVariants.{Submit}
use Rattle.ckrt_schedule.specs.declared.schedule.Schedule.{Schedule}
use Rattle.ckrt_schedule.specs.declared.schedule.Sought.{Sought}
use Rattle.ckrt_schedule.specs.declared.schedule.Sought.TheVariants.{Busy, Occupied}
use Rattle.ckrt_schedule.specs.declared.schedule.Turn.{Turn}
use Rattle.ckrt_schedule.specs.Schedules.{chosen, event_at, first_ready, greatest_ready, is_any_ready, is_sought, next_by, next_event, next_sought, of_busy, of_runner, on_hart, owner_of, places_of, ready_from_folded, run_by, runner_at, turn_at}
use Rattle.ckrt_schedule.specs.Turns.{AreScheduled, EachRuns, IsRunAmong, RunsAtOnce, given_among}
use Rattle.ckrt_schedule.proofs.SearchLemmas.{found, passed}
use Rattle.ckrt_schedule.proofs.TurnLemmas.{comes_by, each_busy, none_given, of_running, own_event, same_event, scheduled_next, some_else, some_planned, some_ready}

-- SEARCHES that find

record Found (o : Option ℕ) : Type 0 where
  value : ℕ
  is : o ≡ Some value

of_some : (o : Option ℕ) → is_some o ≡ true → Found o
of_some None e = absurd (cc)
of_some (Some x) e = record { value = x; is = refl }

is_one : (o : Option ℕ) (x : ℕ) → o ≡ Some x → is_some o ≡ true
is_one o x e = ap (λ (p : Option ℕ). is_some p) e

module _ (k : Sought) (s : Tables) where
  now_or_later : (h : ℕ) (b : Bool) → h < s.threads.hart_count → is_sought k s h ≡ b → is_some (next_sought k (h + 1) s) ≡ true → is_some (next_sought k h s) ≡ true
  now_or_later h true l e later = is_one (next_sought k h s) h (found k h s l e)
  now_or_later h false l e later = ap (λ (p : Option ℕ). is_some p) (passed k h s l e) ∙ later

  -- the search from a hart on finds one where it comes to one
  finds_from : (d h : ℕ) → h + d < s.threads.hart_count → is_sought k s (h + d) ≡ true → is_some (next_sought k h s) ≡ true
  finds_from zero h l e =
      let here : h + 0 ≡ h = omega arith in
      is_one (next_sought k h s) h (found k h s (omega arith) (subst (λ j. is_sought k s j ≡ true) here e))
  finds_from (suc d) h l e =
      let there : h + suc d ≡ h + 1 + d = omega arith in
      now_or_later h (is_sought k s h) (omega arith) refl (finds_from d (h + 1) (omega arith) (subst (λ j. is_sought k s j ≡ true) there e))

  finds : (g : ℕ) → g < s.threads.hart_count → is_sought k s g ≡ true → is_some (next_sought k 0 s) ≡ true
  finds g l e =
      let all : 0 + g ≡ g = omega arith in
      finds_from g 0 (omega arith) (subst (λ j. is_sought k s j ≡ true) (sym all) e)

or_left : (b c : Bool) → b ≡ true → (b || c) ≡ true
or_left true c e = refl
or_left false c e = absurd (cc)

-- a hart that a thread is on is busy
busy_by : (g t : ℕ) (s : Tables) → hart_of s g ≡ Some t → is_sought Busy s g ≡ true
busy_by g t s on = or_left (is_some (hart_of s g)) (is_any_ready s.threads) (is_one (hart_of s g) t on)

-- WHO IS CHOSEN

record Greatest (n t : ℕ) (s : threads.State) : Type 0 where
  id : ℕ
  is : greatest_ready n s ≡ Some id
  from : t ≤ id
  to : id ≤ n
  ready : threads.is_ready s id ≡ true

last_or_less : (n t : ℕ) (s : threads.State) (b : Bool) → threads.is_ready s (suc n) ≡ b → t ≤ suc n → threads.is_ready s t ≡ true → (t ≤ n → Greatest n t s) → Greatest (suc n) t s
last_or_less n t s true e high r less = record { id = suc n; is = ap (λ b. cond b (Some (suc n)) (greatest_ready n s)) e; from = high; to = omega arith; ready = e }
last_or_less n t s false e high r less =
    let g = less (by_test (t == suc n) refl) in
    record { id = g.id; is = ap (λ b. cond b (Some (suc n)) (greatest_ready n s)) e ∙ g.is; from = g.from; to = (let below = g.to in omega arith); ready = g.ready }
  where
    by_test : (b : Bool) → (t == suc n) ≡ b → t ≤ n
    by_test true is =
        let same : t ≡ suc n = grind (arith, nat_tests) in
        let last = subst (λ k. threads.is_ready s k ≡ true) same r in
        absurd (cc)
    by_test false is = grind (arith, nat_tests)

greatest : (n t : ℕ) (s : threads.State) → 1 ≤ t → t ≤ n → threads.is_ready s t ≡ true → Greatest n t s
greatest zero t s low high r = absurd (omega arith)
greatest (suc n) t s low high r = last_or_less n t s (threads.is_ready s (suc n)) refl high r (λ l. greatest n t s low l r)

first_some : (start t : ℕ) (s : threads.State) → 1 ≤ t → t ≤ 64 → threads.is_ready s t ≡ true → is_some (first_ready start s) ≡ true
first_some start t s low high r =
    let g = greatest 64 t s low high r in
    let some : 0 < g.id = (let from = g.from in omega arith) in
    let begin = (start - 1) % g.id in
    let less : begin < g.id = mod-lt (start - 1) some in
    let all : begin + 1 + (g.id - (begin + 1)) ≡ g.id = omega arith in
    let ready = subst (λ k. threads.is_ready s k ≡ true) (sym all) g.ready in
    ap (λ o. is_some (ready_from_folded o start s)) g.is
    ∙ some_ready (65 - (begin + 1)) (begin + 1) (g.id - (begin + 1)) s (let to = g.to in omega arith) ready

if_both : (b : Bool) (o p : Option ℕ) → is_some o ≡ true → is_some p ≡ true → is_some (cond b o p) ≡ true
if_both true o p e f = e
if_both false o p e f = f

-- where a thread is ready, there is one for each hart
chosen_some : (x : Turn) (h t : ℕ) (s : Tables) → is_running s.status ≡ true → h < s.threads.hart_count → 1 ≤ t → t ≤ 64 → threads.is_ready s.threads t ≡ true → is_some (chosen x h s) ≡ true
chosen_some x h t s running there low high r =
    if_both (threads.is_ready s.threads x.owner) (Some x.owner) (cond (is_some (hart_of s h)) (planned h s) (first_ready x.start s.threads)) refl
    (if_both (is_some (hart_of s h)) (planned h s) (first_ready x.start s.threads) (some_planned h t s running there low high r) (first_some x.start t s.threads low high r))

planned_ready : (b : Bool) (h y : ℕ) (s : Tables) → cond b (next_ready h s) None ≡ Some y → threads.is_ready s.threads y ≡ true
planned_ready true h y s e = next_is_ready h y s e
planned_ready false h y s e = absurd (cc)

folded_ready : (o : Option ℕ) (start y : ℕ) (s : threads.State) → ready_from_folded o start s ≡ Some y → threads.is_ready s y ≡ true
folded_ready None start y s e = absurd (cc)
folded_ready (Some g) start y s e = ready_found (65 - ((start - 1) % g + 1)) ((start - 1) % g + 1) y s e

-- who is chosen is ready
chosen_ready : (x : Turn) (h y : ℕ) (s : Tables) → chosen x h s ≡ Some y → threads.is_ready s.threads y ≡ true
chosen_ready x h y s e = of_owner (threads.is_ready s.threads x.owner) refl e
  where
    of_hart : (b : Bool) → cond b (planned h s) (first_ready x.start s.threads) ≡ Some y → threads.is_ready s.threads y ≡ true
    of_hart true f = planned_ready (is_running s.status && nat_lt h s.threads.hart_count) h y s f
    of_hart false f = folded_ready (greatest_ready 64 s.threads) x.start y s.threads f

    of_owner : (b : Bool) → threads.is_ready s.threads x.owner ≡ b → cond b (Some x.owner) (cond (is_some (hart_of s h)) (planned h s) (first_ready x.start s.threads)) ≡ Some y → threads.is_ready s.threads y ≡ true
    of_owner true r f = let same : x.owner ≡ y = cc in subst (λ k. threads.is_ready s.threads k ≡ true) same r
    of_owner false r f = of_hart (is_some (hart_of s h)) f

-- THE EVENT OF A TURN

-- a tick, a run, or a placing of who is chosen
data Shape (x : Turn) (s : Tables) : Event → Type 0 where
  is_tick : (k : ℕ) → Shape x s (Tick k)
  is_run : (h : ℕ) → Shape x s (run_by h x.steps)
  is_put : (h y : ℕ) → chosen x h s ≡ Some y → Shape x s (Place h y)

shape_of : (x : Turn) (least : ℕ) (s : Tables) → Shape x s (event_at x least s)
shape_of x least s = by_clock (x.place == 2 * s.threads.hart_count)
  where
    by_chosen : (h : ℕ) (o : Option ℕ) → chosen x h s ≡ o → Shape x s (on_hart o h x.steps)
    by_chosen h (Some y) is = is_put h y is
    by_chosen h None is = is_run h

    by_runner : (o : Option ℕ) → Shape x s (of_runner o x least s)
    by_runner (Some h) = is_run h
    by_runner None = let h = unwrap_or (next_sought Busy x.first s) least in by_chosen h (chosen x h s) refl

    by_clock : (b : Bool) → Shape x s (cond b (Tick 1) (of_runner (runner_at x s) x least s))
    by_clock true = is_tick 1
    by_clock false = by_runner (runner_at x s)

at_clock : (x : Turn) (least : ℕ) (s : Tables) → (x.place == 2 * s.threads.hart_count) ≡ true → event_at x least s ≡ Tick 1
at_clock x least s last = ap (λ b. cond b (Tick 1) (of_runner (runner_at x s) x least s)) last

at_runner : (x : Turn) (least r : ℕ) (s : Tables) → (x.place == 2 * s.threads.hart_count) ≡ false → runner_at x s ≡ Some r → event_at x least s ≡ run_by r x.steps
at_runner x least r s other is = ap (λ b. cond b (Tick 1) (of_runner (runner_at x s) x least s)) other ∙ ap (λ o. of_runner o x least s) is

at_busy : (x : Turn) (least j : ℕ) (s : Tables) → (x.place == 2 * s.threads.hart_count) ≡ false → runner_at x s ≡ None → next_sought Busy x.first s ≡ Some j → event_at x least s ≡ of_busy x j s
at_busy x least j s other none is =
    ap (λ b. cond b (Tick 1) (of_runner (runner_at x s) x least s)) other ∙ ap (λ o. of_runner o x least s) none
    ∙ ap (λ o. of_busy x (unwrap_or o least) s) is

-- PLACES OF A ROUND

data Kind (p harts : ℕ) : Type 0 where
  for_clock : p ≡ 2 * harts → Kind p harts
  for_placing : (j : ℕ) → j < harts → p ≡ 2 * j → Kind p harts
  for_running : (j : ℕ) → j < harts → p ≡ 2 * j + 1 → Kind p harts

kind_of : (p harts : ℕ) → p < 2 * harts + 1 → Kind p harts
kind_of p harts l = by_odd (p % 2 == 1) refl
  where
    even_of : (b : Bool) → (p == 2 * harts) ≡ b → p % 2 ≡ 0 → Kind p harts
    even_of true last even = for_clock (grind (arith, nat_tests))
    even_of false other even = let less : p < 2 * harts = grind (arith, nat_tests) in for_placing (p / 2) (omega arith) (omega arith)

    by_odd : (b : Bool) → (p % 2 == 1) ≡ b → Kind p harts
    by_odd true odd = let is : p % 2 ≡ 1 = grind (arith, nat_tests) in for_running (p / 2) (omega arith) (omega arith)
    by_odd false not_odd = let isnt : p % 2 ≡ 0 = grind (arith, nat_tests) in even_of (p == 2 * harts) refl isnt

-- the place k events later, in the same round and in the next
later_place : (n k r places : ℕ) → n % places + k ≡ r → r < places → (n + k) % places ≡ r
later_place n k r places is less =
    let q = n / places in
    let whole : q * places + n % places ≡ n = div-add-mod' n places in
    let sum : n + k ≡ q * places + r = omega (arith, whole) in
    ap (λ m. m % places) sum ∙ mul-add-mod_self_right q places r ∙ mod-eq_of_lt less

next_round : (n k r places : ℕ) → n % places + k ≡ places + r → r < places → (n + k) % places ≡ r
next_round n k r places is less =
    let q = n / places in
    let whole : q * places + n % places ≡ n = div-add-mod' n places in
    let more : (q + 1) * places ≡ q * places + 1 * places = add-mul q 1 places in
    let sum : n + k ≡ (q + 1) * places + r = omega (arith, whole, more) in
    ap (λ m. m % places) sum ∙ mul-add-mod_self_right (q + 1) places r ∙ mod-eq_of_lt less

not_clock : (j harts : ℕ) → j < harts → (2 * j == 2 * harts) ≡ false
not_clock j harts l = grind (arith, nat_tests)

not_clock_odd : (j harts : ℕ) → j < harts → (2 * j + 1 == 2 * harts) ≡ false
not_clock_odd j harts l = grind (arith, nat_tests)

is_even : (j : ℕ) → (2 * j % 2 == 1) ≡ false
is_even j = let e : 2 * j % 2 ≡ 0 = omega arith in ap (λ m. m == 1) e

is_odd : (j : ℕ) → ((2 * j + 1) % 2 == 1) ≡ true
is_odd j = let e : (2 * j + 1) % 2 ≡ 1 = omega arith in ap (λ m. m == 1) e

-- THE EVENT OF A SCHEDULE, where some hart is busy

record EventBy (u : Schedule) (n : ℕ) (s : Tables) (e : Event) : Type 0 where
  runs : is_running s.status ≡ true
  least : ℕ
  is : event_at (turn_at u n s) least s ≡ e

event_by : (u : Schedule) (n : ℕ) (s : Tables) (e : Event) → next_event u None n s ≡ Submit e → (is_running s.status ≡ true → is_some (next_sought Busy 0 s) ≡ true) → EventBy u n s e
event_by u n s e next busy =
    let x = turn_at u n s in
    let runs = of_running (is_running s.status) (next_by (next_sought Busy 0 s) x s) e next in
    let least = of_some (next_sought Busy 0 s) (busy runs.0) in
    let scheduled = subst (λ o. next_by o x s ≡ Submit e) least.is runs.1 in
    record { runs = runs.0; least = least.value; is = same_event (event_at x least.value s) e scheduled }

-- it runs a hart, or puts somebody onto one
record RunsOf (turn : ℕ) (e : Event) : Type 0 where
  hart : ℕ
  is : e ≡ run_by hart turn

record PlacesOn (g : ℕ) (e : Event) : Type 0 where
  who : ℕ
  is : e ≡ Place g who

runs_same : (g h m : ℕ) → is_of_hart g (run_by h m) ≡ (g == h)
runs_same g h m = of_test (nat_le m RUN_LIMIT)
  where
    of_test : (b : Bool) → is_of_hart g (cond b (Run h m) (RunLong h m)) ≡ (g == h)
    of_test true = refl
    of_test false = refl

runs_place : (t h m : ℕ) → is_placing t (run_by h m) ≡ false
runs_place t h m = of_test (nat_le m RUN_LIMIT)
  where
    of_test : (b : Bool) → is_placing t (cond b (Run h m) (RunLong h m)) ≡ false
    of_test true = refl
    of_test false = refl

-- a hart after a thread was put onto it
on_after : (j y : ℕ) (s : State) → j < length s.tables.threads.harts → hart_of (step (Place j y) s).state.tables j ≡ Some y
on_after j y s l =
    let here : eqb j j ≡ true = grind (arith, nat_tests) in
    slot_at s.tables.threads.harts j j (Some y) l ∙ ap (λ b. cond b (Some y) (hart_of s.tables j)) here

module _ (turn t harts : ℕ) (some : 0 < harts) where
  abbrev u : Schedule
  u = record { turn = turn; seed = None }

  abbrev P : ℕ
  P = 2 * harts + 1

  -- at a place for placing, where the hart is busy, the event is for this hart
  at_placing : (n j least : ℕ) (s : Tables) → s.threads.hart_count ≡ harts → n % P ≡ 2 * j → j < harts → next_sought Busy j s ≡ Some j → event_at (turn_at u n s) least s ≡ of_busy (turn_at u n s) j s
  at_placing n j least s count place below busy =
      let x = turn_at u n s in
      let at : n % places_of s ≡ 2 * j = ap (λ h. n % (2 * h + 1)) count ∙ place in
      let other : (x.place == 2 * s.threads.hart_count) ≡ false = subst (λ p. (p == 2 * s.threads.hart_count) ≡ false) (sym at) (subst (λ h. (2 * j == 2 * h) ≡ false) (sym count) (not_clock j harts below)) in
      let even : (x.place % 2 == 1) ≡ false = ap (λ p. p % 2 == 1) at ∙ is_even j in
      let none : runner_at x s ≡ None = ap (λ b. cond b (or_else (next_sought Occupied x.first s) (next_sought Occupied 0 s)) None) even in
      let half : 2 * j / 2 ≡ j = omega arith in
      let first : x.first ≡ j = ap (λ p. p / 2) at ∙ half in
      at_busy x least j s other none (ap (λ h. next_sought Busy h s) first ∙ busy)

  record OddPlace (n j : ℕ) (s : Tables) : Type 0 where
    other : ((turn_at u n s).place == 2 * s.threads.hart_count) ≡ false
    odd : ((turn_at u n s).place % 2 == 1) ≡ true
    first : (turn_at u n s).first ≡ j

  odd_place : (n j : ℕ) (s : Tables) → s.threads.hart_count ≡ harts → n % P ≡ 2 * j + 1 → j < harts → OddPlace n j s
  odd_place n j s count place below =
      let at : n % places_of s ≡ 2 * j + 1 = ap (λ h. n % (2 * h + 1)) count ∙ place in
      let half : (2 * j + 1) / 2 ≡ j = omega arith in
      record {
        other = subst (λ p. (p == 2 * s.threads.hart_count) ≡ false) (sym at) (subst (λ h. (2 * j + 1 == 2 * h) ≡ false) (sym count) (not_clock_odd j harts below));
        odd = ap (λ p. p % 2 == 1) at ∙ is_odd j;
        first = ap (λ p. p / 2) at ∙ half;
      }

  -- who runs at a place for running
  runner_of : (n j : ℕ) (s : Tables) → OddPlace n j s → runner_at (turn_at u n s) s ≡ or_else (next_sought Occupied j s) (next_sought Occupied 0 s)
  runner_of n j s p =
      let x = turn_at u n s in
      ap (λ b. cond b (or_else (next_sought Occupied x.first s) (next_sought Occupied 0 s)) None) p.odd
      ∙ ap (λ h. or_else (next_sought Occupied h s) (next_sought Occupied 0 s)) p.first

  -- WHERE THE THREAD IS

  -- it is ready, and at a place for running some hart is occupied
  record IsReadyAt (n : ℕ) (s : State) : Type 0 where
    count : s.tables.threads.hart_count ≡ harts
    room : harts ≤ length s.tables.threads.harts
    ready : threads.is_ready s.tables.threads t ≡ true
    occupied : (j : ℕ) → n % P ≡ 2 * j + 1 → is_some (next_sought Occupied 0 s.tables) ≡ true

  record IsOnAt (g : ℕ) (s : State) : Type 0 where
    count : s.tables.threads.hart_count ≡ harts
    room : harts ≤ length s.tables.threads.harts
    below : g < harts
    on : IsOnHart t g s.tables.threads

  hart_is : (g : ℕ) (s : State) → IsOnAt g s → hart_of s.tables g ≡ Some t
  hart_is g s a =
      let here : (g == g) ≡ true = grind (arith, nat_tests) in
      let on = a.on in
      holds_it t (hart_of s.tables g) (on.harts g ∙ here)

  abbrev Runs : List Event → State → Type 0
  Runs es s = IsRunAmong t turn es s

  run_later : (e : Event) (es : List Event) (s : State) → Runs es (step e s).state → Runs (e ∷ es) s
  run_later e es s r = record { before = e ∷ r.before; hart = r.hart; after = r.after; is = ap (λ (l : List Event). e ∷ l) r.is; on = r.on }

  run_now : (h : ℕ) (e : Event) (es : List Event) (s : State) → e ≡ run_by h turn → hart_of s.tables h ≡ Some t → Runs (e ∷ es) s
  run_now h e es s is on = record { before = []; hart = h; after = es; is = ap (λ (x : Event). x ∷ es) is; on = on }

  -- AFTER IT WAS PLACED at a place for placing, it runs at once

  placed_runs : (n j : ℕ) (f : Event) (z : Tables) → z.threads.hart_count ≡ harts → j < harts → n % P ≡ 2 * j → hart_of z j ≡ Some t → next_event u None (n + 1) z ≡ Submit f → f ≡ run_by j turn
  placed_runs n j f z count below place on next =
      let there : j < z.threads.hart_count = omega (arith, count, below) in
      let is = event_by u (n + 1) z f next (λ r. finds Busy z j there (busy_by j t z on)) in
      let odd : (n + 1) % P ≡ 2 * j + 1 = later_place n 1 (2 * j + 1) P (omega (arith, place)) (omega (arith, below)) in
      let p = odd_place (n + 1) j z count odd below in
      let runner = runner_of (n + 1) j z p ∙ ap (λ o. or_else o (next_sought Occupied 0 z)) (found Occupied j z there (is_one (hart_of z j) t on)) in
      sym is.is ∙ at_runner (turn_at u (n + 1) z) is.least j z p.other runner

  then_runs : (n j : ℕ) (e : Event) (es : List Event) (s : State) → e ≡ Place j t → s.tables.threads.hart_count ≡ harts → harts ≤ length s.tables.threads.harts → j < harts → n % P ≡ 2 * j
      → AreScheduled u (n + 1) es (step e s).state → given_among es ≡ 0 → 1 ≤ length es → Runs (e ∷ es) s
  then_runs n j e [] s is count room below place scheduled none long = absurd (omega arith)
  then_runs n j e (f ∷ fs) s is count room below place scheduled none long =
      let on : hart_of (step e s).state.tables j ≡ Some t = subst (λ x. hart_of (step x s).state.tables j ≡ Some t) (sym is) (on_after j t s (omega (arith, below, room))) in
      let next = scheduled_next u (n + 1) f fs (step e s).state scheduled none in
      run_later e (f ∷ fs) s (run_now j f fs (step e s).state (placed_runs n j f (step e s).state.tables (same_harts e s ∙ count) below place on next) on)

  -- A READY THREAD

  -- an event that doesn't place it leaves it ready
  ready_after : (n : ℕ) (e : Event) (s : State) → IsReadyAt n s → is_placing t e ≡ false → ((j : ℕ) → (n + 1) % P ≡ 2 * j + 1 → is_some (next_sought Occupied 0 (step e s).state.tables) ≡ true) → IsReadyAt (n + 1) (step e s).state
  ready_after n e s a other occupied =
      let room = same_room t e s a.ready other in
      record {
        count = same_harts e s ∙ a.count;
        room = (let before = a.room in omega (arith, before, room));
        ready = stay_ready t e s a.ready other;
        occupied = occupied;
      }

  -- another that was put onto a hart occupies it
  occupies : (g y : ℕ) (s : State) → s.tables.threads.hart_count ≡ harts → harts ≤ length s.tables.threads.harts → g < harts → is_some (next_sought Occupied 0 (step (Place g y) s).state.tables) ≡ true
  occupies g y s count room below =
      let z = (step (Place g y) s).state.tables in
      let there : g < s.tables.threads.hart_count = omega (arith, below, count) in
      finds Occupied z g there (is_one (hart_of z g) y (on_after g y s (omega (arith, below, room))))

  module _ (low : 1 ≤ t) (high : t ≤ 64) where
    -- where it is ready, somebody is put onto the hart of a place for placing
    ready_placing : (n j : ℕ) (e : Event) (s : Tables) → s.threads.hart_count ≡ harts → threads.is_ready s.threads t ≡ true → next_event u None n s ≡ Submit e → n % P ≡ 2 * j → j < harts → PlacesOn j e
    ready_placing n j e s count ready next place below =
        let x = turn_at u n s in
        let there : j < s.threads.hart_count = omega (arith, below, count) in
        let first : 0 < s.threads.hart_count = omega (arith, there) in
        let is = event_by u n s e next (λ r. is_one (next_sought Busy 0 s) 0 (each_busy 0 t s first low high ready)) in
        let busy = each_busy j t s there low high ready in
        let who = of_some (chosen x j s) (chosen_some x j t s is.runs there low high ready) in
        record { who = who.value; is = sym is.is ∙ at_placing n j is.least s count place below busy ∙ ap (λ o. on_hart o j x.steps) who.is }

    -- an event of a ready thread: it is put onto a hart and runs at once, or is ready after it
    ready_step : (n : ℕ) (e : Event) (es : List Event) (s : State) → IsReadyAt n s → next_event u None n s.tables ≡ Submit e → AreScheduled u (n + 1) es (step e s).state → given_among es ≡ 0
        → 1 ≤ length es → (is_placing t e ≡ false → IsReadyAt (n + 1) (step e s).state → Runs (e ∷ es) s) → Runs (e ∷ es) s
    ready_step n e es s a next scheduled none long later = by_kind (kind_of (n % P) harts (mod-lt n (omega arith)))
      where
        first : 0 < s.tables.threads.hart_count
        first = let count = a.count in omega (arith, count)

        by : EventBy u n s.tables e
        by = event_by u n s.tables e next (λ r. is_one (next_sought Busy 0 s.tables) 0 (each_busy 0 t s.tables first low high a.ready))

        -- at a place behind which none for running comes
        then_even : (x : Event) → e ≡ x → is_placing t x ≡ false → ((j : ℕ) → (n + 1) % P ≡ 2 * j + 1 → is_some (next_sought Occupied 0 (step e s).state.tables) ≡ true) → Runs (e ∷ es) s
        then_even x is other occupied = let not_placed = subst (λ y. is_placing t y ≡ false) (sym is) other in later not_placed (ready_after n e s a not_placed occupied)

        at_place : (j y : ℕ) (b : Bool) → (t == y) ≡ b → e ≡ Place j y → n % P ≡ 2 * j → j < harts → Runs (e ∷ es) s
        at_place j y true same is place below =
            let who : y ≡ t = grind (arith, nat_tests) in
            then_runs n j e es s (is ∙ ap (λ k. Place j k) who) a.count a.room below place scheduled none long
        at_place j y false other is place below =
            then_even (Place j y) is other (λ i odd. subst (λ x. is_some (next_sought Occupied 0 (step x s).state.tables) ≡ true) (sym is) (occupies j y s a.count a.room below))

        by_kind : Kind (n % P) harts → Runs (e ∷ es) s
        by_kind (for_clock last) =
            let x = turn_at u n s.tables in
            let at : n % places_of s.tables ≡ 2 * s.tables.threads.hart_count = ap (λ h. n % (2 * h + 1)) a.count ∙ last ∙ ap (λ h. 2 * h) (sym a.count) in
            let is_last : (x.place == 2 * s.tables.threads.hart_count) ≡ true = grind (arith, nat_tests) in
            let next_is : (n + 1) % P ≡ 0 = next_round n 1 0 P (omega (arith, last)) (omega arith) in
            then_even (Tick 1) (sym by.is ∙ at_clock x by.least s.tables is_last) refl (λ j odd. absurd (omega (arith, odd, next_is)))
        by_kind (for_placing j below place) = let p = ready_placing n j e s.tables a.count a.ready next place below in at_place j p.who (t == p.who) refl p.is place below
        by_kind (for_running j below place) =
            let x = turn_at u n s.tables in
            let p = odd_place n j s.tables a.count place below in
            let r = of_some (runner_at x s.tables) (ap (λ (o : Option ℕ). is_some o) (runner_of n j s.tables p) ∙ some_else (next_sought Occupied j s.tables) (next_sought Occupied 0 s.tables) (a.occupied j place)) in
            let next_is : (n + 1) % P ≡ 2 * j + 2 = later_place n 1 (2 * j + 2) P (omega (arith, place)) (omega (arith, below)) in
            then_even (run_by r.value turn) (sym by.is ∙ at_runner x by.least r.value s.tables p.other r.is) (runs_place t r.value turn) (λ i odd. absurd (omega (arith, odd, next_is)))

    -- the k-th event from here begins its round
    ready_runs : (k n : ℕ) (es : List Event) (s : State) → IsReadyAt n s → (n + k) % P ≡ 0 → owner_of (n + k) harts ≡ t → k + 2 ≤ length es → AreScheduled u n es s → given_among es ≡ 0 → Runs es s
    ready_runs k n [] s a begins own long scheduled none = absurd (omega arith)
    ready_runs zero n (e ∷ es) s a begins own long scheduled none =
        let next = scheduled_next u n e es s scheduled none in
        let here : n + 0 ≡ n = omega arith in
        let at = sym a.count in
        let begun = subst (λ h. n % (2 * h + 1) ≡ 0) at (subst (λ m. m % P ≡ 0) here begins) in
        let owned = subst (λ h. owner_of n h ≡ t) at (subst (λ m. owner_of m harts ≡ t) here own) in
        let is = own_event u n t s.tables e (subst (λ h. 0 < h) at some) low high begun owned a.ready next in
        let placed : is_placing t e ≡ true = subst (λ x. is_placing t x ≡ true) (sym is.is) (grind (arith, nat_tests)) in
        ready_step n e es s a next scheduled.1 (none_given e es none) (omega arith) (λ other later. absurd (cc))
    ready_runs (suc k) n (e ∷ es) s a begins own long scheduled none =
        let there : n + suc k ≡ n + 1 + k = omega arith in
        ready_step n e es s a (scheduled_next u n e es s scheduled none) scheduled.1 (none_given e es none) (omega arith)
        (λ other later.
        run_later e es s
        (ready_runs k (n + 1) es (step e s).state later (subst (λ m. m % P ≡ 0) there begins) (subst (λ m. owner_of m harts ≡ t) there own) (omega arith) scheduled.1 (none_given e es none)))

    -- so it runs within 64 rounds and an event
    ready_within : (n : ℕ) (es : List Event) (s : State) → IsReadyAt n s → 64 * P + 1 ≤ length es → AreScheduled u n es s → given_among es ≡ 0 → Runs es s
    ready_within n es s a long scheduled none =
        let c = comes_by n t P (omega arith) low high in
        ready_runs c.by n es s a c.begins c.own (let within = c.within in omega (arith, within, long)) scheduled none

    -- A THREAD ON A HART

    -- nobody puts it onto a hart
    chosen_other : (n g h y : ℕ) (s : State) → IsOnAt g s → chosen (turn_at u n s.tables) h s.tables ≡ Some y → (t == y) ≡ false
    chosen_other n g h y s a is = by_test (t == y) refl
      where
        by_test : (b : Bool) → (t == y) ≡ b → (t == y) ≡ false
        by_test false other = other
        by_test true e =
            let same : y ≡ t = grind (arith, nat_tests) in
            let ready = subst (λ k. threads.is_ready s.tables.threads k ≡ true) same (chosen_ready (turn_at u n s.tables) h y s.tables is) in
            let off = off_harts t g s.tables.threads ready in
            let on = a.on in
            let there = on.harts g in
            let here : (g == g) ≡ true = grind (arith, nat_tests) in
            absurd (cc)

    -- an event of another hart leaves it there
    on_after_other : (g : ℕ) (e : Event) (s : State) → IsOnAt g s → is_of_hart g e ≡ false → is_placing t e ≡ false → IsOnAt g (step e s).state
    on_after_other g e s a away other =
        let room = same_room_on_hart t g e s a.on away other in
        record {
          count = same_harts e s ∙ a.count;
          room = (let before = a.room in omega (arith, before, room));
          below = a.below;
          on = stay_on_hart t g e s a.on away other;
        }

    -- another that is put onto its hart takes it off
    taken_by : (n g y : ℕ) (s : State) → IsOnAt g s → (t == y) ≡ false → IsReadyAt (n + 1) (step (Place g y) s).state
    taken_by n g y s a other =
        let size : length (step (Place g y) s).state.tables.threads.harts ≡ length s.tables.threads.harts = length-set s.tables.threads.harts g (Some y) in
        record {
          count = a.count;
          room = (let before = a.room in omega (arith, before, size));
          ready = taken_off t g y s.tables.threads a.on (let before = a.room in let below = a.below in omega (arith, before, below)) other;
          occupied = λ j odd. occupies g y s a.count a.room a.below;
        }

    -- an event of a thread on a hart: it runs, or is ready after it, or is there still
    on_step : (n g : ℕ) (e : Event) (es : List Event) (s : State) → IsOnAt g s → next_event u None n s.tables ≡ Submit e → (IsReadyAt (n + 1) (step e s).state → Runs (e ∷ es) s)
        → (is_of_hart g e ≡ false → IsOnAt g (step e s).state → Runs (e ∷ es) s) → Runs (e ∷ es) s
    on_step n g e es s a next off still =
        let there : g < s.tables.threads.hart_count = (let count = a.count in let below = a.below in omega (arith, below, count)) in
        let by = event_by u n s.tables e next (λ r. finds Busy s.tables g there (busy_by g t s.tables (hart_is g s a))) in
        by_shape e (subst (Shape (turn_at u n s.tables) s.tables) by.is (shape_of (turn_at u n s.tables) by.least s.tables)) off still
      where
        by_run : (h : ℕ) (b : Bool) → (g == h) ≡ b → (is_of_hart g (run_by h turn) ≡ false → IsOnAt g (step (run_by h turn) s).state → Runs (run_by h turn ∷ es) s) → Runs (run_by h turn ∷ es) s
        by_run h true is still = let same : g ≡ h = grind (arith, nat_tests) in run_now h (run_by h turn) es s refl (subst (λ k. hart_of s.tables k ≡ Some t) same (hart_is g s a))
        by_run h false away still = let other = runs_same g h turn ∙ away in still other (on_after_other g (run_by h turn) s a other (runs_place t h turn))

        by_place : (h y : ℕ) (b : Bool) → (g == h) ≡ b → (t == y) ≡ false → (IsReadyAt (n + 1) (step (Place h y) s).state → Runs (Place h y ∷ es) s)
            → (is_of_hart g (Place h y) ≡ false → IsOnAt g (step (Place h y) s).state → Runs (Place h y ∷ es) s) → Runs (Place h y ∷ es) s
        by_place h y true is other off still = let same : g ≡ h = grind (arith, nat_tests) in off (subst (λ k. IsReadyAt (n + 1) (step (Place k y) s).state) same (taken_by n g y s a other))
        by_place h y false away other off still = still away (on_after_other g (Place h y) s a away other)

        by_shape : (x : Event) → Shape (turn_at u n s.tables) s.tables x → (IsReadyAt (n + 1) (step x s).state → Runs (x ∷ es) s) → (is_of_hart g x ≡ false → IsOnAt g (step x s).state → Runs (x ∷ es) s)
            → Runs (x ∷ es) s
        by_shape _ (is_tick k) off still = still refl (on_after_other g (Tick k) s a refl refl)
        by_shape _ (is_run h) off still = by_run h (g == h) refl still
        by_shape _ (is_put h y is) off still = by_place h y (g == h) refl (chosen_other n g h y s a is) off still

    -- at the place for placing of its hart the event is of this hart
    own_hart : (n g : ℕ) (e : Event) (s : State) → IsOnAt g s → next_event u None n s.tables ≡ Submit e → n % P ≡ 2 * g → is_of_hart g e ≡ true
    own_hart n g e s a next place =
        let there : g < s.tables.threads.hart_count = (let count = a.count in let below = a.below in omega (arith, below, count)) in
        let busy = busy_by g t s.tables (hart_is g s a) in
        let by = event_by u n s.tables e next (λ r. finds Busy s.tables g there busy) in
        let is = at_placing n g by.least s.tables a.count place a.below (found Busy g s.tables there busy) in
        subst (λ x. is_of_hart g x ≡ true) (sym is ∙ by.is) (of_chosen (chosen (turn_at u n s.tables) g s.tables))
      where
        here : (g == g) ≡ true
        here = grind (arith, nat_tests)

        of_chosen : (o : Option ℕ) → is_of_hart g (on_hart o g turn) ≡ true
        of_chosen None = runs_same g g turn ∙ here
        of_chosen (Some y) = here

    -- the k-th event from here is at the place for placing of its hart
    on_runs : (k n g : ℕ) (es : List Event) (s : State) → IsOnAt g s → (n + k) % P ≡ 2 * g → k + 64 * P + 2 ≤ length es → AreScheduled u n es s → given_among es ≡ 0 → Runs es s
    on_runs k n g [] s a place long scheduled none = absurd (omega arith)
    on_runs zero n g (e ∷ es) s a place long scheduled none =
        let next = scheduled_next u n e es s scheduled none in
        let here : n + 0 ≡ n = omega arith in
        let own = own_hart n g e s a next (subst (λ m. m % P ≡ 2 * g) here place) in
        on_step n g e es s a next (λ r. run_later e es s (ready_within (n + 1) es (step e s).state r (omega arith) scheduled.1 (none_given e es none))) (λ away later. absurd (cc))
    on_runs (suc k) n g (e ∷ es) s a place long scheduled none =
        let there : n + suc k ≡ n + 1 + k = omega arith in
        on_step n g e es s a (scheduled_next u n e es s scheduled none)
        (λ r. run_later e es s (ready_within (n + 1) es (step e s).state r (omega arith) scheduled.1 (none_given e es none)))
        (λ away later. run_later e es s (on_runs k (n + 1) g es (step e s).state later (subst (λ m. m % P ≡ 2 * g) there place) (omega arith) scheduled.1 (none_given e es none)))

    -- so it runs within 65 rounds and an event
    on_within : (n g : ℕ) (es : List Event) (s : State) → IsOnAt g s → 65 * P + 1 ≤ length es → AreScheduled u n es s → given_among es ≡ 0 → Runs es s
    on_within n g es s a long scheduled none = by_test (nat_le (n % P) (2 * g)) refl
      where
        by_test : (b : Bool) → nat_le (n % P) (2 * g) ≡ b → Runs es s
        by_test true ahead =
            let below = a.below in
            let l : n % P ≤ 2 * g = grind (arith, nat_tests) in
            on_runs (2 * g - n % P) n g es s a (later_place n (2 * g - n % P) (2 * g) P (omega (arith, l)) (omega (arith, below))) (omega (arith, l, below, long)) scheduled none
        by_test false past =
            let below = a.below in
            let l : 2 * g < n % P = grind (arith, nat_tests) in
            let less : n % P < P = mod-lt n (omega arith) in
            on_runs (P + 2 * g - n % P) n g es s a (next_round n (P + 2 * g - n % P) (2 * g) P (omega (arith, less)) (omega (arith, below))) (omega (arith, l, long)) scheduled none

    -- AT THE BEGINNING a ready thread may be at a place for running where no hart is occupied: it may be put onto a hart there

    begun_running : (n j : ℕ) (e : Event) (es : List Event) (s : State) → s.tables.threads.hart_count ≡ harts → harts ≤ length s.tables.threads.harts → threads.is_ready s.tables.threads t ≡ true
        → n % P ≡ 2 * j + 1 → j < harts → 65 * P ≤ length es → AreScheduled u n (e ∷ es) s → given_among (e ∷ es) ≡ 0 → Runs (e ∷ es) s
    begun_running n j e es s count room ready place below long scheduled none = by_runner (runner_at (turn_at u n s.tables) s.tables) refl
      where
        x : Turn
        x = turn_at u n s.tables

        next : next_event u None n s.tables ≡ Submit e
        next = scheduled_next u n e es s scheduled none

        there : j < s.tables.threads.hart_count
        there = omega (arith, below, count)

        p : OddPlace n j s.tables
        p = odd_place n j s.tables count place below

        by : EventBy u n s.tables e
        by = event_by u n s.tables e next (λ r. is_one (next_sought Busy 0 s.tables) 0 (each_busy 0 t s.tables (omega (arith, there)) low high ready))

        next_is : (n + 1) % P ≡ 2 * j + 2
        next_is = later_place n 1 (2 * j + 2) P (omega (arith, place)) (omega (arith, below))

        still_ready : is_placing t e ≡ false → Runs (e ∷ es) s
        still_ready other =
            let size = same_room t e s ready other in
            let after : IsReadyAt (n + 1) (step e s).state = record {
              count = same_harts e s ∙ count;
              room = omega (arith, room, size);
              ready = stay_ready t e s ready other;
              occupied = λ i odd. absurd (omega (arith, odd, next_is));
            } in
            run_later e es s (ready_within (n + 1) es (step e s).state after (omega (arith, long)) scheduled.1 (none_given e es none))

        by_who : (y : ℕ) (b : Bool) → (t == y) ≡ b → e ≡ Place j y → Runs (e ∷ es) s
        by_who y false other is = still_ready (subst (λ z. is_placing t z ≡ false) (sym is) other)
        by_who y true same is =
            let who : y ≡ t = grind (arith, nat_tests) in
            let put : e ≡ Place j t = is ∙ ap (λ k. Place j k) who in
            let size : length (step (Place j t) s).state.tables.threads.harts ≡ length s.tables.threads.harts = length-set s.tables.threads.harts j (Some t) in
            let on : IsOnAt j (step (Place j t) s).state = record {
              count = count;
              room = omega (arith, room, size);
              below = below;
              on = placed_there t j s.tables.threads (omega (arith, room, below)) ready;
            } in
            let after = subst (λ z. IsOnAt j (step z s).state) (sym put) on in
            let comes : (n + 1 + (P - 2)) % P ≡ 2 * j = next_round (n + 1) (P - 2) (2 * j) P (omega (arith, next_is)) (omega (arith, below)) in
            run_later e es s (on_runs (P - 2) (n + 1) j es (step e s).state after comes (omega (arith, long)) scheduled.1 (none_given e es none))

        by_runner : (o : Option ℕ) → runner_at x s.tables ≡ o → Runs (e ∷ es) s
        by_runner (Some r) is =
            let run : e ≡ run_by r turn = sym by.is ∙ at_runner x by.least r s.tables p.other is in
            still_ready (subst (λ z. is_placing t z ≡ false) (sym run) (runs_place t r turn))
        by_runner None is =
            let busy = each_busy j t s.tables there low high ready in
            let who = of_some (chosen x j s.tables) (chosen_some x j t s.tables by.runs there low high ready) in
            let put : e ≡ Place j who.value = sym by.is ∙ at_busy x by.least j s.tables p.other is (ap (λ h. next_sought Busy h s.tables) p.first ∙ busy) ∙ ap (λ o. on_hart o j x.steps) who.is in
            by_who who.value (t == who.value) refl put

    begun_ready : (n : ℕ) (es : List Event) (s : State) → s.tables.threads.hart_count ≡ harts → harts ≤ length s.tables.threads.harts → threads.is_ready s.tables.threads t ≡ true
        → 65 * P + 1 ≤ length es → AreScheduled u n es s → given_among es ≡ 0 → Runs es s
    begun_ready n [] s count room ready long scheduled none = absurd (omega arith)
    begun_ready n (e ∷ es) s count room ready long scheduled none = by_kind (kind_of (n % P) harts (mod-lt n (omega arith)))
      where
        at_even : ((j : ℕ) → n % P ≡ 2 * j + 1 → ⊥) → Runs (e ∷ es) s
        at_even never = ready_within n (e ∷ es) s (record { count = count; room = room; ready = ready; occupied = λ j odd. absurd (never j odd) }) (omega (arith, long)) scheduled none

        by_kind : Kind (n % P) harts → Runs (e ∷ es) s
        by_kind (for_clock last) = at_even (λ j odd. omega (arith, last, odd))
        by_kind (for_placing i below place) = at_even (λ j odd. omega (arith, place, odd))
        by_kind (for_running j below place) = begun_running n j e es s count room ready place below (omega arith) scheduled none

-- WHO GOES ONTO A HART AS ITS ROUND BEGINS runs at once

pub runs_at_once : RunsAtOnce
runs_at_once turn n t e f s some long low high begins own ready next following =
    let u : Schedule = record { turn = turn; seed = None } in
    let harts = s.tables.threads.hart_count in
    let put = ready_placing turn t harts some low high n 0 e s.tables refl ready next begins some in
    let owned = own_event u n t s.tables e some low high begins own ready next in
    let who = same_who 0 put.who owned.hart t (sym put.is ∙ owned.is) in
    let is : e ≡ Place 0 t = put.is ∙ ap (λ k. Place 0 k) who in
    let after = subst (λ x. next_event u None (n + 1) (step x s).state.tables ≡ Submit f) is following in
    (is, placed_runs turn t harts some n 0 f (step (Place 0 t) s).state.tables refl some begins (on_after 0 t s (omega (arith, long))) after)
  where
    same_who : (g y h v : ℕ) → Place g y ≡ Place h v → y ≡ v
    same_who g y h v is = cc

-- THE THEOREM

live_on : (s : threads.State) (t : ℕ) → threads.IsWellFormed s → threads.is_on_hart s t ≡ true → threads.is_live s t ≡ true
live_on s t w e = let h = has_hart t s.harts e in let on = on_hart_of t h.hart s w h.is in on.live

hart_below : (s : threads.State) (h t : ℕ) → threads.IsWellFormed s → option_flatten (slice_get s.harts h) ≡ Some t → h < s.hart_count
hart_below s h t w is = by_test (nat_le s.hart_count h) refl
  where
    by_test : (b : Bool) → nat_le s.hart_count h ≡ b → h < s.hart_count
    by_test false l = grind (arith, nat_tests)
    by_test true l = let idle = w.idle h (grind (arith, nat_tests)) in absurd (cc)

pub each_runs : EachRuns
each_runs turn n t es s w some where_it_is scheduled none long = of_where where_it_is
  where
    room : s.tables.threads.hart_count ≤ length s.tables.threads.harts
    room = let size = w.harts in let few = w.hart_count in omega (arith, size, few)

    of_where : (threads.is_ready s.tables.threads t ≡ true) ⊎ (threads.is_on_hart s.tables.threads t ≡ true) → IsRunAmong t turn es s
    of_where (inl ready) =
        let range = live_range s.tables.threads t w (ready_live s.tables.threads t ready) in
        begun_ready turn t s.tables.threads.hart_count some range.0 range.1 n es s refl room ready long scheduled none
    of_where (inr on) =
        let range = live_range s.tables.threads t w (live_on s.tables.threads t w on) in
        let h = has_hart t s.tables.threads.harts on in
        on_within turn t s.tables.threads.hart_count some range.0 range.1 n h.hart es s
        (record { count = refl; room = room; below = hart_below s.tables.threads h.hart t w h.is; on = on_hart_of t h.hart s.tables.threads w h.is }) long scheduled none
