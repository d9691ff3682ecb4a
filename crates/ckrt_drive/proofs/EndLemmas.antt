-- The planner's ends mean what they say.
use Rattle.std.proofs.Common.{◌≡◌, ℕ, zero, suc, ◌+◌, ◌-◌, ◌<◌, ◌≤◌, ◌==◌, ◌&&◌, Bool, true, false, if◌then◌else◌, Option, Some, None, is_some, find, All, List, [], ◌∷◌, refl, sym, ap, subst, arith}
use Rattle.std.proofs.lemmas.List.Elements.{All-nil, All-cons}
use Rattle.ckrt_events.specs.declared.event.Event.{Event}
use Rattle.ckrt_thread.specs.declared.records.Wait.{Wait}
use Rattle.ckrt_thread.specs.declared.records.Object.TheVariants.{Input}
use Rattle.ckrt_thread.specs.State as threads
use Rattle.ckrt_thread.specs.Waits.{is_for}
use Rattle.ckrt_calls.specs.declared.table.Tables.{Tables}
use Rattle.ckrt_machine.specs.Plans.{ready_from, least_ready}
use Rattle.ckrt_machine.specs.Runs.{is_running}
use Rattle.ckrt_machine.specs.Steps.{hart_of}
use Rattle.ckrt_schedule.specs.declared.next.ScheduleEnd.{ScheduleEnd}
use Rattle.ckrt_schedule.specs.declared.next.ScheduleEnd.TheVariants.{Ended, WaitsForInput, Deadlock, Enough}
use Rattle.ckrt_schedule.specs.declared.next.Next.{Next}
use Rattle.ckrt_schedule.specs.declared.next.Next.TheVariants.{End}
use Rattle.ckrt_schedule.specs.declared.schedule.Sought.TheVariants.{Busy}
use Rattle.ckrt_schedule.specs.declared.schedule.Turn.{Turn}
use Rattle.ckrt_drive.specs.declared.supply.Supply.{Supply}
use Rattle.ckrt_drive.specs.Ends.{IsStuck, IsRead, IsUnread, IsEnd}
use Rattle.ckrt_schedule.specs.declared.schedule.Schedule.{Schedule}
use Rattle.ckrt_schedule.specs.Schedules.{is_any_ready, is_sought, sought_among, next_sought, sooner, earliest_deadline, idle_until, next_by, next_event, or_scheduled, turn_at}
use Rattle.ckrt_drive.specs.Plan.{next}
use Rattle.ckrt_drive.proofs.Choices.{neither, both_are, same_number}

-- SEARCHES THAT FIND NOTHING

passed_by : {X : Type 0} (b : Bool) (x : X) (o : Option X) → (if b then Some x else o) ≡ None → (b ≡ false) × (o ≡ None)
passed_by true x o e = absurd (cc)
passed_by false x o e = (refl, e)

nothing : {X : Type 0} (o : Option X) → is_some o ≡ false → o ≡ None
nothing None e = refl
nothing (Some x) e = absurd (cc)

none_busy : (n h j : ℕ) (s : Tables) → sought_among Busy n h s ≡ None → j < n → is_sought Busy s (h + j) ≡ false
none_busy zero h j s e l = absurd (omega arith)
none_busy (suc n) h zero s e l =
    let here : h + 0 ≡ h = omega arith in
    subst (λ k. is_sought Busy s k ≡ false) (sym here) (passed_by (is_sought Busy s h) h (sought_among Busy n (h + 1) s) e).0
none_busy (suc n) h (suc j) s e l =
    let there : h + 1 + j ≡ h + suc j = omega arith in
    subst (λ k. is_sought Busy s k ≡ false) there (none_busy n (h + 1) j s (passed_by (is_sought Busy s h) h (sought_among Busy n (h + 1) s) e).1 (omega arith))

none_ready : (n t j : ℕ) (s : threads.State) → ready_from n t s ≡ None → j < n → threads.is_ready s (t + j) ≡ false
none_ready zero t j s e l = absurd (omega arith)
none_ready (suc n) t zero s e l =
    let here : t + 0 ≡ t = omega arith in
    subst (λ k. threads.is_ready s k ≡ false) (sym here) (passed_by (threads.is_ready s t) t (ready_from n (t + 1) s) e).0
none_ready (suc n) t (suc j) s e l =
    let there : t + 1 + j ≡ t + suc j = omega arith in
    subst (λ k. threads.is_ready s k ≡ false) there (none_ready n (t + 1) j s (passed_by (threads.is_ready s t) t (ready_from n (t + 1) s) e).1 (omega arith))

no_sooner : (o p : Option ℕ) → sooner o p ≡ None → (o ≡ None) × (p ≡ None)
no_sooner None p e = (refl, e)
no_sooner (Some d) None e = absurd (cc)
no_sooner (Some d) (Some f) e = absurd (cc)

endless : (ws : List Wait) → earliest_deadline ws ≡ None → All (λ w. w.deadline ≡ None) ws
endless [] e = All-nil (λ w. w.deadline ≡ None)
endless (w ∷ ws) e =
    let parts = no_sooner w.deadline (earliest_deadline ws) e in
    All-cons (λ w. w.deadline ≡ None) w ws parts.0 (endless ws parts.1)

-- WAITS FOR INPUT

unread : (ws : List Wait) → is_some (find (is_for Input) ws) ≡ false → IsUnread ws
unread [] e = All-nil (λ w. is_for Input w ≡ false)
unread (w ∷ ws) e =
    let parts = passed_by (is_for Input w) w (find (is_for Input) ws) (nothing (find (is_for Input) (w ∷ ws)) e) in
    All-cons (λ w. is_for Input w ≡ false) w ws parts.0 (unread ws (ap is_some parts.1))

later : (w : Wait) (ws : List Wait) → IsRead ws → IsRead (w ∷ ws)
later w ws (reader, (k, inside, at), is) = (reader, (suc k, omega (arith, inside), at), is)

read_by : (b : Bool) (w : Wait) (ws : List Wait) → is_for Input w ≡ b → (b ≡ false → IsRead ws) → IsRead (w ∷ ws)
read_by true w ws is rest = (w, (0, omega arith, refl), is)
read_by false w ws is rest = later w ws (rest refl)

found_by : {X : Type 0} (b : Bool) (x : X) (o : Option X) → b ≡ false → is_some (if b then Some x else o) ≡ true → is_some o ≡ true
found_by true x o never e = absurd (cc)
found_by false x o _ e = e

read : (ws : List Wait) → is_some (find (is_for Input) ws) ≡ true → IsRead ws
read [] e = absurd (cc)
read (w ∷ ws) e = read_by (is_for Input w) w ws refl (λ no. read ws (found_by (is_for Input w) w (find (is_for Input) ws) no e))

-- WHAT LEADS TO AN END

at_idle : (o : Option ℕ) (s : Tables) (ending : ScheduleEnd) → idle_until o s ≡ End ending → (o ≡ None) × (ending ≡ (if is_some (threads.first_waiter Input s.threads) then WaitsForInput else Deadlock))
at_idle (Some d) s ending e = absurd (cc)
at_idle None s ending e = (refl, cc)

at_next : (least : Option ℕ) (turn : Turn) (s : Tables) (ending : ScheduleEnd) → next_by least turn s ≡ End ending → (least ≡ None) × (idle_until (earliest_deadline s.threads.waits) s ≡ End ending)
at_next (Some h) turn s ending e = absurd (cc)
at_next None turn s ending e = (refl, e)

-- STUCK

idle_at : (s : Tables) (h : ℕ) → next_sought Busy 0 s ≡ None → h < s.threads.hart_count → (hart_of s h ≡ None) × (least_ready 1 s.threads ≡ None)
idle_at s h e l =
    let at : 0 + h ≡ h = omega arith in
    let not_busy = subst (λ k. is_sought Busy s k ≡ false) at (none_busy (s.threads.hart_count - 0) 0 h s e (omega (arith, l))) in
    let parts = neither (is_some (hart_of s h)) (is_any_ready s.threads) not_busy in
    (nothing (hart_of s h) parts.0, nothing (least_ready 1 s.threads) parts.1)

unready_at : (s : Tables) (t : ℕ) → least_ready 1 s.threads ≡ None → 1 ≤ t → t ≤ 64 → threads.is_ready s.threads t ≡ false
unready_at s t nobody low high =
    let at : 1 + (t - 1) ≡ t = omega arith in
    subst (λ k. threads.is_ready s.threads k ≡ false) at (none_ready (65 - 1) 1 (t - 1) s.threads nobody (omega arith))

stuck : (s : Tables) → is_running s.status ≡ true → next_sought Busy 0 s ≡ None → earliest_deadline s.threads.waits ≡ None → IsStuck s
stuck s running idle none = record {
  running = running;
  idle = λ h l. (idle_at s h idle l).0;
  unready = λ some t low high. unready_at s t (idle_at s 0 idle some).1 low high;
  endless = endless s.threads.waits none;
}

waits_or_not : (b : Bool) (left : ℕ) (s : Tables) (ending : ScheduleEnd) → IsStuck s → is_some (threads.first_waiter Input s.threads) ≡ b → ending ≡ (if b then WaitsForInput else Deadlock) → IsEnd ending left s
waits_or_not true left s ending h is e = subst (λ x. IsEnd x left s) (sym e) (record { stuck = h; read = read s.threads.waits is })
waits_or_not false left s ending h is e = subst (λ x. IsEnd x left s) (sym e) (record { stuck = h; unread = unread s.threads.waits is })

end_idle : (turn : Turn) (left : ℕ) (s : Tables) (ending : ScheduleEnd) → is_running s.status ≡ true → next_by (next_sought Busy 0 s) turn s ≡ End ending → IsEnd ending left s
end_idle turn left s ending running e =
    let none = at_next (next_sought Busy 0 s) turn s ending e in
    let idle = at_idle (earliest_deadline s.threads.waits) s ending none.1 in
    waits_or_not (is_some (threads.first_waiter Input s.threads)) left s ending (stuck s running none.0 idle.0) refl idle.1

-- an end isn't given: it is the schedule's
end_scheduled : (given : Option Event) (n : Next) (ending : ScheduleEnd) → or_scheduled given n ≡ End ending → n ≡ End ending
end_scheduled (Some e) n ending is = absurd (cc)
end_scheduled None n ending is = is

end_running : (b : Bool) (given : Option Event) (turn : Turn) (left : ℕ) (s : Tables) (ending : ScheduleEnd) → is_running s.status ≡ b → (if b then or_scheduled given (next_by (next_sought Busy 0 s) turn s) else End Ended) ≡ End ending → IsEnd ending left s
end_running true given turn left s ending running e = end_idle turn left s ending running (end_scheduled given (next_by (next_sought Busy 0 s) turn s) ending e)
end_running false given turn left s ending running e =
    let is : Ended ≡ ending = cc in
    subst (λ x. IsEnd x left s) is running

end_by : (b : Bool) (u : Schedule) (w : Supply) (n : ℕ) (s : Tables) (ending : ScheduleEnd) → (is_running s.status && (w.left == 0)) ≡ b → (if b then End Enough else next_event u w.given n s) ≡ End ending → IsEnd ending w.left s
end_by true u w n s ending none e =
    let is : Enough ≡ ending = cc in
    let parts = both_are (is_running s.status) (w.left == 0) none in
    subst (λ x. IsEnd x w.left s) is (parts.0, same_number w.left 0 parts.1)
end_by false u w n s ending some e = end_running (is_running s.status) w.given (turn_at u n s) w.left s ending refl e

-- an end that is next is what it says
pub end_of : (u : Schedule) (w : Supply) (n : ℕ) (s : Tables) (ending : ScheduleEnd) → next u w n s ≡ End ending → IsEnd ending w.left s
end_of u w n s ending e = end_by (is_running s.status && (w.left == 0)) u w n s ending refl e
