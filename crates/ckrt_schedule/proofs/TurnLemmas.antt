-- The theorem of turns.
use Rattle.std.proofs.Common.{◌≡◌, ◌⊎◌, inl, inr, ◌∙◌, ◌==◌, ◌+◌, ◌-◌, ◌*◌, ◌/◌, ◌%◌, ◌<◌, ◌≤◌, ◌&&◌, ◌||◌, ℕ, zero, suc, nat_lt, Bool, true, false, cond, Option, Some, None, is_some, List, [], ◌∷◌, length, ap, sym, subst, arith, refl}
use Rattle.std.specs.Prelude.{unwrap_or}
use Rattle.std.proofs.lemmas.Bool.Decides.{nat_tests}
use Rattle.std.proofs.Math.Nat.{add-mul, div-mul-le_self, lt-div-mul-add, mul-div_cancel, mul-le-mul_right, mul-mod_left}
use Rattle.ckrt_thread.specs.State as threads
use Rattle.ckrt_calls.specs.declared.table.Tables.{Tables}
use Rattle.ckrt_events.specs.declared.event.Event.{Event}
use Rattle.ckrt_events.specs.declared.event.Event.TheVariants.{Place, Run, Input, Eof, Tick, RunLong}
use Rattle.ckrt_machine.specs.Steps.{State, hart_of}
use Rattle.ckrt_machine.specs.Runs.{is_running}
use Rattle.ckrt_machine.specs.Events.{step}
use Rattle.ckrt_machine.specs.Stays.{StayReady, is_placing}
use Rattle.ckrt_machine.specs.Plans.{ready_from, least_ready, next_ready, or_else, or_zero, planned}
use Rattle.ckrt_machine.proofs.Fixed.{same_harts}
use Rattle.ckrt_schedule.specs.declared.next.Next.{Next}
use Rattle.ckrt_schedule.specs.declared.next.Next.TheVariants.{Submit, End}
use Rattle.ckrt_schedule.specs.declared.next.ScheduleEnd.TheVariants.{Ended}
use Rattle.ckrt_schedule.specs.declared.schedule.Schedule.{Schedule}
use Rattle.ckrt_schedule.specs.declared.schedule.Sought.TheVariants.{Busy}
use Rattle.ckrt_schedule.specs.declared.schedule.Turn.{Turn}
use Rattle.ckrt_schedule.specs.Schedules.{event_at, is_any_ready, next_by, next_event, next_sought, owner_of, places_of, turn_at, turn_by}
use Rattle.ckrt_schedule.specs.Turns.{AreScheduled, EachReadyIsPlaced, IsPlacedAmong, given_among, is_given, turns_within}
use Rattle.ckrt_schedule.proofs.SearchLemmas.{found}

-- WHERE A THREAD IS READY, each hart is busy

or_first : (b : Bool) (a : ℕ) (o : Option ℕ) → is_some o ≡ true → is_some (cond b (Some a) o) ≡ true
or_first true a o e = refl
or_first false a o e = e

pub some_ready : (n a j : ℕ) (s : threads.State) → j < n → threads.is_ready s (a + j) ≡ true → is_some (ready_from n a s) ≡ true
some_ready zero a j s l r = absurd (omega arith)
some_ready (suc n) a zero s l r =
    let here : a + 0 ≡ a = omega arith in
    let ready = subst (λ k. threads.is_ready s k ≡ true) here r in
    ap (λ b. is_some (cond b (Some a) (ready_from n (a + 1) s))) ready
some_ready (suc n) a (suc j) s l r =
    let there : a + suc j ≡ a + 1 + j = omega arith in
    or_first (threads.is_ready s a) a (ready_from n (a + 1) s)
    (some_ready n (a + 1) j s (omega arith) (subst (λ k. threads.is_ready s k ≡ true) there r))

any_ready : (t : ℕ) (s : threads.State) → 1 ≤ t → t ≤ 64 → threads.is_ready s t ≡ true → is_any_ready s ≡ true
any_ready t s low high ready =
    let at : t ≡ 1 + (t - 1) = omega arith in
    some_ready (65 - 1) 1 (t - 1) s (omega arith) (subst (λ k. threads.is_ready s k ≡ true) at ready)

pub some_else : (o p : Option ℕ) → is_some p ≡ true → is_some (or_else o p) ≡ true
some_else None p e = e
some_else (Some x) p e = refl

where_both : (b c : Bool) (o : Option ℕ) → b ≡ true → c ≡ true → is_some o ≡ true → is_some (cond (b && c) o None) ≡ true
where_both true true o p q e = e
where_both true false o p q e = absurd (cc)
where_both false c o p q e = absurd (cc)

pub some_planned : (h t : ℕ) (s : Tables) → is_running s.status ≡ true → h < s.threads.hart_count → 1 ≤ t → t ≤ 64 → threads.is_ready s.threads t ≡ true → is_some (planned h s) ≡ true
some_planned h t s running there low high ready =
    where_both (is_running s.status) (nat_lt h s.threads.hart_count) (next_ready h s) running (grind (arith, nat_tests))
    (some_else (least_ready (or_zero (hart_of s h) + 1) s.threads) (least_ready 1 s.threads) (any_ready t s.threads low high ready))

or_second : (b c : Bool) → c ≡ true → (b || c) ≡ true
or_second true c e = refl
or_second false c e = e

-- where a thread is ready, each hart is busy
pub each_busy : (h t : ℕ) (s : Tables) → h < s.threads.hart_count → 1 ≤ t → t ≤ 64 → threads.is_ready s.threads t ≡ true → next_sought Busy h s ≡ Some h
each_busy h t s there low high ready =
    found Busy h s there (or_second (is_some (hart_of s h)) (is_any_ready s.threads) (any_ready t s.threads low high ready))

-- THE EVENT AT THE BEGINNING OF A ROUND is for the thread whose round it is

pub place_of_turn : (seed : Option ℕ) (most place n harts : ℕ) → (turn_by seed most place n harts).place ≡ place
place_of_turn None most place n harts = refl
place_of_turn (Some seed) most place n harts = refl

owner_of_turn : (seed : Option ℕ) (most place n harts : ℕ) → (turn_by seed most place n harts).owner ≡ owner_of n harts
owner_of_turn None most place n harts = refl
owner_of_turn (Some seed) most place n harts = refl

-- at a place where a thread may be placed
for_owner : (turn : Turn) (least : ℕ) (s : Tables) → (turn.place == 2 * s.threads.hart_count) ≡ false → (turn.place % 2 == 1) ≡ false → threads.is_ready s.threads turn.owner ≡ true
    → event_at turn least s ≡ Place (unwrap_or (next_sought Busy turn.first s) least) turn.owner
for_owner turn least s other even ready = rw (other, even, ready) refl

pub of_running : (b : Bool) (scheduled : Next) (e : Event) → cond b scheduled (End Ended) ≡ Submit e → (b ≡ true) × (scheduled ≡ Submit e)
of_running true scheduled e h = (refl, h)
of_running false scheduled e h = absurd (cc)

pub same_event : (a b : Event) → Submit a ≡ Submit b → a ≡ b
same_event a b h = cc

pub record IsPlacing (t : ℕ) (e : Event) : Type 0 where
  pub hart : ℕ
  pub is : e ≡ Place hart t

pub own_event : (u : Schedule) (n t : ℕ) (s : Tables) (e : Event) → 0 < s.threads.hart_count → 1 ≤ t → t ≤ 64 → n % places_of s ≡ 0 → owner_of n s.threads.hart_count ≡ t
    → threads.is_ready s.threads t ≡ true → next_event u None n s ≡ Submit e → IsPlacing t e
own_event u n t s e some low high begins own ready next =
    let runs = of_running (is_running s.status) (next_by (next_sought Busy 0 s) (turn_at u n s) s) e next in
    let least = each_busy 0 t s some low high ready in
    let turn = turn_at u n s in
    let scheduled = subst (λ o. next_by o (turn_at u n s) s ≡ Submit e) least runs.1 in
    let same : event_at turn 0 s ≡ e = same_event (event_at turn 0 s) e scheduled in
    let place : turn.place ≡ 0 = place_of_turn u.seed u.turn (n % places_of s) n s.threads.hart_count ∙ begins in
    let owner : turn.owner ≡ t = owner_of_turn u.seed u.turn (n % places_of s) n s.threads.hart_count ∙ own in
    let other : (turn.place == 2 * s.threads.hart_count) ≡ false = subst (λ p. (p == 2 * s.threads.hart_count) ≡ false) (sym place) (no_clocks s.threads.hart_count some) in
    let even : (turn.place % 2 == 1) ≡ false = ap (λ p. p % 2 == 1) place in
    let ready_owner = subst (λ k. threads.is_ready s.threads k ≡ true) (sym owner) ready in
    let h = unwrap_or (next_sought Busy turn.first s) 0 in
    record { hart = h; is = sym same ∙ for_owner turn 0 s other even ready_owner ∙ ap (λ k. Place h k) owner }
  where
    no_clocks : (harts : ℕ) → 0 < harts → (0 == 2 * harts) ≡ false
    no_clocks harts l = grind (arith, nat_tests)

-- A ROUND OF EACH THREAD comes within 64 rounds

record Ahead (q t : ℕ) : Type 0 where
  by : ℕ
  few : by ≤ 63
  own : (q + by) % 64 + 1 ≡ t

ahead : (q t : ℕ) → 1 ≤ t → t ≤ 64 → Ahead q t
ahead q t low high = record { by = (t - 1 + (64 - q % 64)) % 64; few = omega arith; own = omega arith }

pub record ComesBy (n t places : ℕ) : Type 0 where
  pub by : ℕ
  pub within : by < 64 * places
  pub begins : (n + by) % places ≡ 0
  pub own : (n + by) / places % 64 + 1 ≡ t

multiple : (n by r places : ℕ) → 0 < places → n + by ≡ r * places → ((n + by) % places ≡ 0) × ((n + by) / places ≡ r)
multiple n by r places some is = (ap (λ m. m % places) is ∙ mul-mod_left r places, ap (λ m. m / places) is ∙ mul-div_cancel r some)

pub comes_by : (n t places : ℕ) → 0 < places → 1 ≤ t → t ≤ 64 → ComesBy n t places
comes_by n t places some low high =
    let q = (n + (places - 1)) / places in
    let a = ahead q t low high in
    let below : q * places ≤ n + (places - 1) = div-mul-le_self (n + (places - 1)) places in
    let above : n + (places - 1) < q * places + places = lt-div-mul-add some in
    let both : (q + a.by) * places ≡ q * places + a.by * places = add-mul q a.by places in
    let most : a.by * places ≤ 63 * places = mul-le-mul_right places a.few in
    at q a.by ((q + a.by) * places) (q * places) (a.by * places) below above both most refl a.own
  where
    at : (q j x y z : ℕ) → y ≤ n + (places - 1) → n + (places - 1) < y + places → x ≡ y + z → z ≤ 63 * places → x ≡ (q + j) * places → (q + j) % 64 + 1 ≡ t → ComesBy n t places
    at q j x y z below above both most is own =
        let sum : n + (x - n) ≡ x = omega arith in
        let parts = multiple n (x - n) (q + j) places some (sum ∙ is) in
        record {
          by = x - n;
          within = omega arith;
          begins = parts.0;
          own = ap (λ r. r % 64 + 1) parts.1 ∙ own;
        }

-- THE THEOREM

placed_later : (t : ℕ) (e : Event) (es : List Event) → IsPlacedAmong t es → IsPlacedAmong t (e ∷ es)
placed_later t e es p = record { before = e ∷ p.before; hart = p.hart; after = p.after; is = ap (λ (l : List Event). e ∷ l) p.is }

placed_now : (t : ℕ) (e : Event) (es : List Event) → IsPlacing t e → IsPlacedAmong t (e ∷ es)
placed_now t e es p = record { before = []; hart = p.hart; after = es; is = ap (λ (x : Event). x ∷ es) p.is }

-- EVENTS OF AN INPUT

pub given_rest : (e : Event) (es : List Event) → is_given e ≡ true → given_among (e ∷ es) ≡ 1 + given_among es
given_rest e es is = ap (λ b. cond b 1 0 + given_among es) is

given_fewer : (e : Event) (es : List Event) (b : Bool) → is_given e ≡ b → given_among es ≤ given_among (e ∷ es)
given_fewer e es true is = let more = given_rest e es is in omega (arith, more)
given_fewer e es false is = let same : given_among (e ∷ es) ≡ 0 + given_among es = ap (λ c. cond c 1 0 + given_among es) is in omega (arith, same)

pub none_given : (e : Event) (es : List Event) → given_among (e ∷ es) ≡ 0 → given_among es ≡ 0
none_given e es none = let fewer = given_fewer e es (is_given e) refl in omega (arith, fewer)

-- where no event is of an input, each is the one that the schedule has next
pub scheduled_next : (u : Schedule) (n : ℕ) (e : Event) (es : List Event) (s : State) → AreScheduled u n (e ∷ es) s → given_among (e ∷ es) ≡ 0 → next_event u None n s.tables ≡ Submit e
scheduled_next u n e es s scheduled none = next_of scheduled.0
  where
    next_of : (is_given e ≡ true) ⊎ (next_event u None n s.tables ≡ Submit e) → next_event u None n s.tables ≡ Submit e
    next_of (inl given) = let more = given_rest e es given in absurd (omega (arith, more))
    next_of (inr next) = next

given_not_placing : (t : ℕ) (e : Event) → is_given e ≡ true → is_placing t e ≡ false
given_not_placing t (Input bytes) is = refl
given_not_placing t Eof is = refl
given_not_placing t (Place h v) is = absurd (cc)
given_not_placing t (Run h n) is = absurd (cc)
given_not_placing t (RunLong h n) is = absurd (cc)
given_not_placing t (Tick k) is = absurd (cc)

is_placing_so : (t : ℕ) (e : Event) → is_placing t e ≡ true → IsPlacing t e
is_placing_so t (Place h v) is = let same : v ≡ t = grind (arith, nat_tests) in record { hart = h; is = ap (λ k. Place h k) same }
is_placing_so t (Run h n) is = absurd (cc)
is_placing_so t (RunLong h n) is = absurd (cc)
is_placing_so t (Input bytes) is = absurd (cc)
is_placing_so t Eof is = absurd (cc)
is_placing_so t (Tick k) is = absurd (cc)

now_or_later : (t : ℕ) (e : Event) (es : List Event) (b : Bool) → is_placing t e ≡ b → (is_placing t e ≡ false → IsPlacedAmong t es) → IsPlacedAmong t (e ∷ es)
now_or_later t e es true is later = placed_now t e es (is_placing_so t e is)
now_or_later t e es false is later = placed_later t e es (later is)

module _ (stay : StayReady) (u : Schedule) (t harts : ℕ) (some : 0 < harts) (low : 1 ≤ t) (high : t ≤ 64) where
  -- so many events place the thread, where j of them at most are of an input
  abbrev Comes : (j : ℕ) → Type 0
  Comes j =
      (n : ℕ) (es : List Event) (s : State) → s.tables.threads.hart_count ≡ harts → AreScheduled u n es s → threads.is_ready s.tables.threads t ≡ true
      → given_among es ≤ j → turns_within harts j ≤ length es → IsPlacedAmong t es

  -- the k-th event from here begins the thread's round, and enough come behind it for the case that it is of an input
  comes : (i : ℕ) → ((j : ℕ) → i ≡ suc j → Comes j) → (k n : ℕ) (es : List Event) (s : State) → s.tables.threads.hart_count ≡ harts
      → (n + k) % (2 * harts + 1) ≡ 0 → owner_of (n + k) harts ≡ t → AreScheduled u n es s → threads.is_ready s.tables.threads t ≡ true
      → given_among es ≤ i → k + 1 + 64 * (2 * harts + 1) * i ≤ length es → IsPlacedAmong t es
  comes i again k n [] s same begins own scheduled ready few long = absurd (omega arith)
  comes i again zero n (e ∷ es) s same begins own scheduled ready few long = now scheduled.0
    where
      now : (is_given e ≡ true) ⊎ (next_event u None n s.tables ≡ Submit e) → IsPlacedAmong t (e ∷ es)
      now (inr next) =
          let here : n + 0 ≡ n = omega arith in
          let at = sym same in
          let begun = subst (λ h. n % (2 * h + 1) ≡ 0) at (subst (λ m. m % (2 * harts + 1) ≡ 0) here begins) in
          let owned = subst (λ h. owner_of n h ≡ t) at (subst (λ m. owner_of m harts ≡ t) here own) in
          placed_now t e es (own_event u n t s.tables e (subst (λ h. 0 < h) at some) low high begun owned ready next)
      now (inl given) =
          let more = given_rest e es given in
          let is : i ≡ suc (i - 1) = omega (arith, more) in
          let counted : 1 + (i - 1) ≡ i = omega (arith, more) in
          let rounds : turns_within harts (i - 1) ≡ 64 * (2 * harts + 1) * i = ap (λ m. 64 * (2 * harts + 1) * m) counted in
          placed_later t e es
          (again (i - 1) is (n + 1) es (step e s).state (same_harts e s ∙ same) scheduled.1 (stay t e s ready (given_not_placing t e given))
          (omega (arith, more)) (omega (arith, rounds)))
  comes i again (suc k) n (e ∷ es) s same begins own scheduled ready few long =
      let there : n + suc k ≡ n + 1 + k = omega arith in
      let fewer = given_fewer e es (is_given e) refl in
      now_or_later t e es (is_placing t e) refl
      (λ (is : is_placing t e ≡ false).
      comes i again k (n + 1) es (step e s).state (same_harts e s ∙ same) (subst (λ m. m % (2 * harts + 1) ≡ 0) there begins)
      (subst (λ m. owner_of m harts ≡ t) there own) scheduled.1 (stay t e s ready is) (omega (arith, fewer)) (omega arith))

  round_comes : (i : ℕ) → ((j : ℕ) → i ≡ suc j → Comes j) → Comes i
  round_comes i again n es s same scheduled ready few long =
      let c = comes_by n t (2 * harts + 1) (omega arith) low high in
      let all : 64 * (2 * harts + 1) * (1 + i) ≡ 64 * (2 * harts + 1) + 64 * (2 * harts + 1) * i = one_more (64 * (2 * harts + 1)) i in
      comes i again c.by n es s same c.begins c.own scheduled ready few (omega (arith, c.within, all))
    where
      one_more : (a b : ℕ) → a * (1 + b) ≡ a + a * b
      one_more a b = grind arith

  each_comes : (i : ℕ) → Comes i
  each_comes zero = round_comes zero (λ (j : ℕ) (no : zero ≡ suc j). absurd (omega arith))
  each_comes (suc i) = round_comes (suc i) (λ (j : ℕ) (is : suc i ≡ suc j). subst Comes (let same : i ≡ j = omega arith in same) (each_comes i))

-- that each ready thread stays so is all that is left to show of it
pub each_ready_is_placed : StayReady → EachReadyIsPlaced
each_ready_is_placed stay u n t es s some low high scheduled ready long =
    each_comes stay u t s.tables.threads.hart_count some low high (given_among es) n es s refl scheduled ready (omega arith) long
