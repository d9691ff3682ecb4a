-- What goes on by plan is scheduled, but for what the input gives: so each ready thread gets its turn in it, and the clock goes on.
use Rattle.std.proofs.Common.{◌≡◌, ◌⊎◌, inl, inr, ◌∙◌, ◌==◌, ◌+◌, ◌*◌, ◌≤◌, ℕ, Bool, true, false, cond, Option, Some, None, List, [], ◌∷◌, ◌++◌, length, ap, sym, subst, refl, append_assoc, append-nil, drop, length-append}
use Rattle.std.proofs.lemmas.List.{append_cancel_left}
use Rattle.ckrt_disk.specs.declared.disk.Disk.{Ghosts}
use Rattle.ckrt_calls.specs.declared.table.Tables.{Tables}
use Rattle.ckrt_events.specs.declared.event.Event.{Event}
use Rattle.ckrt_events.specs.declared.event.Event.TheVariants.{Input, Eof}
use Rattle.ckrt_machine.specs.Steps.{State}
use Rattle.ckrt_machine.specs.Runs.{is_running}
use Rattle.ckrt_machine.specs.Events.{fresh, with_keys_off}
use Rattle.ckrt_machine.proofs.Fixed.{same_harts_after}
use Rattle.ckrt_stored.specs.declared.config.Config.{Config}
use Rattle.ckrt_stored.specs.Programs.{Program, start_of, state_after}
use Rattle.ckrt_stored.proofs.ReplayLemmas.{state-append}
use Rattle.ckrt_schedule.specs.declared.next.Next.TheVariants.{Submit}
use Rattle.ckrt_schedule.specs.declared.schedule.Schedule.{Schedule}
use Rattle.ckrt_schedule.specs.Schedules.{next_event}
use Rattle.ckrt_schedule.specs.Turns.{AreScheduled, ClockComes, EachReadyIsPlaced, given_among, is_given, turns_within}
use Rattle.ckrt_schedule.proofs.TurnLemmas.{of_running, same_event}
use Rattle.ckrt_schedule.specs.Taken.{taken_by}
use Rattle.ckrt_schedule.specs.Next.{given_by, has_room, next_bytes}
use Rattle.ckrt_schedule.specs.Next.{given_in}
use Rattle.ckrt_drive.specs.ByPlan.{AreByPlan, Course, IsByPlanFrom}
use Rattle.ckrt_drive.specs.Drives.{AllByPlan, AllKeep, OneDrive, past_behind}
use Rattle.ckrt_drive.specs.Together.{Past}
use Rattle.ckrt_drive.specs.Turns.{AllGiveTurns, HasWindow, PlacesReady, PlansGiveTurns, TakesClockOn, Window}
use Rattle.ckrt_drive.proofs.ByPlanLemmas.{are_fewer}

-- WHAT THE INPUT GIVES

either_given : (b : Bool) (e f : Event) → is_given e ≡ true → is_given f ≡ true → is_given (cond b e f) ≡ true
either_given true e f is are = is
either_given false e f is are = are

some_given : (b : Bool) (e f : Event) → is_given e ≡ true → cond b (Some e) None ≡ Some f → is_given f ≡ true
some_given true e f is h = let same : e ≡ f = cc in subst (λ (x : Event). is_given x ≡ true) same is
some_given false e f is h = absurd (cc)

given_is : (file : Option (List ℕ)) (taken : ℕ) (s : Tables) (e : Event) → given_in file taken s ≡ Some e → is_given e ≡ true
given_is None taken s e h = absurd (cc)
given_is (Some bytes) taken s e h =
    let next = next_bytes (drop taken bytes) in
    some_given (has_room s (length next)) (given_by next) e (either_given (length next == 0) Eof (Input (record { items = next })) refl refl) h

-- WHAT GOES ON BY PLAN is scheduled

scheduled_or_given : (u : Schedule) (given : Option Event) (n : ℕ) (s : Tables) (e : Event) → ((x : Event) → given ≡ Some x → is_given x ≡ true)
    → next_event u given n s ≡ Submit e → (is_given e ≡ true) ⊎ (next_event u None n s ≡ Submit e)
scheduled_or_given u None n s e are h = inr h
scheduled_or_given u (Some x) n s e are h =
    let same = same_event x e (of_running (is_running s.status) (Submit x) e h).1 in
    inl (subst (λ (y : Event). is_given y ≡ true) same (are x refl))

are_scheduled : (u : Course) (p : Program) (behind es : List Event) → AreByPlan u p behind es → AreScheduled u.schedule (length behind) es (state_after p behind)
are_scheduled u p behind [] h = tt
are_scheduled u p behind (e ∷ es) h =
    let s = state_after p behind in
    let given = given_in u.file (taken_by behind) s.tables in
    let more : length (behind ++ e ∷ []) ≡ length behind + 1 = length-append behind (e ∷ []) in
    let rest = are_scheduled u p (behind ++ e ∷ []) es h.1 in
    let counted = subst (λ n. AreScheduled u.schedule n es (state_after p (behind ++ e ∷ []))) more rest in (
      scheduled_or_given u.schedule given (length behind) s.tables e (given_is u.file (taken_by behind) s.tables) h.0,
      subst (λ (z : State). AreScheduled u.schedule (length behind + 1) es z) (state-append behind (e ∷ []) (start_of p)) counted,
    )

-- A WINDOW OF IT

module _ (u : Course) (p : Program) where
  later : (b xs ys : List Event) → AreByPlan u p b (xs ++ ys) → AreByPlan u p (b ++ xs) ys
  later b [] ys h = subst (λ (l : List Event). AreByPlan u p l ys) (sym (append-nil b)) h
  later b (x ∷ xs) ys h = subst (λ (l : List Event). AreByPlan u p l ys) (append_assoc b (x ∷ []) xs) (later (b ++ x ∷ []) xs ys h.1)

  window_by_plan : (first all : List Event) (w : Window) → IsByPlanFrom u p first all → HasWindow first all w → AreByPlan u p w.before w.events
  window_by_plan first all w h at =
      let front = at.begins.0 in
      let back = w.events ++ w.behind in
      let whole : first ++ h.rest ≡ first ++ (front ++ back) = sym h.is ∙ (at.is ∙ (ap (λ (l : List Event). l ++ back) at.begins.1 ∙ append_assoc first front back)) in
      let rest = append_cancel_left first h.rest (front ++ back) whole in
      let there = later first front back (subst (λ (l : List Event). AreByPlan u p first l) rest h.by_plan) in
      let from = subst (λ (l : List Event). AreByPlan u p l back) (sym at.begins.1) there in
      are_fewer u p w.before w.events w.behind from

  window_scheduled : (first all : List Event) (w : Window) → IsByPlanFrom u p first all → HasWindow first all w
      → AreScheduled u.schedule (length w.before) w.events (state_after p w.before)
  window_scheduled first all w h at = are_scheduled u p w.before w.events (window_by_plan first all w h at)

harts_at_start : (b : Bool) (c : Config) (image : List ℕ) → (cond b (fresh c.pages c.harts image) (with_keys_off (fresh c.pages c.harts image))).tables.threads.hart_count ≡ c.harts
harts_at_start true c image = refl
harts_at_start false c image = refl

harts_after : (p : Program) (es : List Event) → (state_after p es).tables.threads.hart_count ≡ p.config.harts
harts_after p es = same_harts_after es (start_of p) ∙ harts_at_start p.has_keys p.config p.image

-- TURNS

module _ (each_is_placed : EachReadyIsPlaced) (clock_comes : ClockComes) where
  places_ready : (u : Course) (p : Program) (first all : List Event) → 1 ≤ p.config.harts → IsByPlanFrom u p first all → PlacesReady p first all
  places_ready u p first all some h w t at low high ready long =
      let s = state_after p w.before in
      let harts : p.config.harts ≡ s.tables.threads.hart_count = sym (harts_after p w.before) in
      each_is_placed u.schedule (length w.before) t w.events s (subst (λ n. 1 ≤ n) harts some) low high (window_scheduled u p first all w h at) ready
      (subst (λ n. turns_within n (given_among w.events) ≤ length w.events) harts long)

  takes_clock_on : (u : Course) (p : Program) (first all : List Event) → IsByPlanFrom u p first all → TakesClockOn p first all
  takes_clock_on u p first all h w d at long =
      let s = state_after p w.before in
      let harts : p.config.harts ≡ s.tables.threads.hart_count = sym (harts_after p w.before) in
      let on =
      clock_comes u.schedule (length w.before) d w.events s (window_scheduled u p first all w h at)
      (subst (λ n. (d + given_among w.events) * (2 * n + 1) ≤ length w.events) harts long) in
      subst (λ (z : State). s.tables.clock + d ≤ z.tables.clock) (sym (state-append w.before w.events (start_of p))) on

  -- that this holds of schedules is all that is left to show of it
  pub plans_give_turns : PlansGiveTurns
  plans_give_turns u p first all some h = record {
    places = places_ready u p first all some h;
    clock = takes_clock_on u p first all h;
  }

  pub drives_give_turns : {D O : Type 0} {d : Ghosts D} {o : Ghosts O} → (u : Course) (first : List Event) (h : Past) (drives : List (OneDrive d o)) (keep : AllKeep h drives) → 1 ≤ h.program.config.harts → AllByPlan u first h drives keep
      → AllGiveTurns first h drives keep
  drives_give_turns u first h [] keep some are = tt
  drives_give_turns u first h (v ∷ more) keep some are =
      (plans_give_turns u h.program first keep.0.all some are.0, drives_give_turns u first (past_behind v keep.0) more keep.1 some are.1)
