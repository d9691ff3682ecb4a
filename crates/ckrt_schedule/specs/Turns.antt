-- Turns: how many events a schedule makes at most before a thread that is ready is put onto a hart, and before the clock goes on.
use Rattle.std.specs.Prelude.{◌≡◌, ◌⊎◌, ◌≤◌, ℕ, ◌+◌, ◌*◌, ◌%◌, Bool, true, false, Some, None, List, [], ◌∷◌, ◌++◌, length}
use Rattle.ckrt_thread.specs.State as threads
use Rattle.ckrt_thread.specs.State.{count_of}
use Rattle.ckrt_events.specs.declared.event.Event.{Event}
use Rattle.ckrt_events.specs.declared.event.Event.TheVariants.{Place, Input, Eof}
use Rattle.ckrt_machine.specs.Steps.{State, hart_of}
use Rattle.ckrt_machine.specs.Events.{step, fold}
use Rattle.ckrt_schedule.specs.declared.next.Next.TheVariants.{Submit}
use Rattle.ckrt_schedule.specs.declared.schedule.Schedule.{Schedule}
use Rattle.ckrt_schedule.specs.Schedules.{next_event, owner_of, places_of, run_by}

-- EVENTS OF A SCHEDULE, and of an input between them

-- the event is of an input: bytes that the program gets, or their end
abbrev pub is_given : Event → Bool
is_given (Input bytes) = true
is_given Eof = true
is_given _ = false

-- how many of the events are of an input
abbrev pub given_among : List Event → ℕ
given_among es = count_of is_given es

-- after n events, in the state s, each of these is of an input, or the one that the schedule has next
abbrev pub AreScheduled : Schedule → (n : ℕ) → List Event → State → Type 0
AreScheduled u n [] s = Unit {0}
AreScheduled u n (e ∷ es) s =
    ((is_given e ≡ true) ⊎ (next_event u None n s.tables ≡ Submit e))
    × AreScheduled u (n + 1) es (step e s).state

-- EACH READY THREAD GETS ITS TURN

-- Among so many events, of which some are of an input, each ready thread is put onto a hart: 64 rounds of H harts, and for each event of an
-- input, which may take a thread's place in its round, 64 rounds more. Without input these are 192 events on one hart and 1,088 on eight.
abbrev pub turns_within : (harts given : ℕ) → ℕ
turns_within harts given = 64 * (2 * harts + 1) * (1 + given)

-- one of the events puts the thread onto a hart
pub record IsPlacedAmong (t : ℕ) (es : List Event) : Type 0 where
  pub before : List Event
  pub hart : ℕ
  pub after : List Event
  pub is : es ≡ before ++ Place hart t ∷ after

-- A thread that is ready is put onto a hart by one of so many events. This holds of each program, in each state, by each schedule, with a
-- seed and without one.
abbrev pub EachReadyIsPlaced : Type 0
EachReadyIsPlaced =
    (u : Schedule) (n t : ℕ) (es : List Event) (s : State) → 1 ≤ s.tables.threads.hart_count
    → 1 ≤ t → t ≤ 64 → AreScheduled u n es s → threads.is_ready s.tables.threads t ≡ true
    → turns_within s.tables.threads.hart_count (given_among es) ≤ length es → IsPlacedAmong t es

-- Where a thread is ready when its round begins, a schedule without a seed puts it onto the first hart, and the next event runs it.
abbrev pub RunsAtOnce : Type 0
RunsAtOnce =
    (turn n t : ℕ) (e f : Event) (s : State) → 1 ≤ s.tables.threads.hart_count
    → length s.tables.threads.harts ≡ 8 → 1 ≤ t → t ≤ 64 → n % places_of s.tables ≡ 0
    → owner_of n s.tables.threads.hart_count ≡ t → threads.is_ready s.tables.threads t ≡ true
    → next_event (record { turn = turn; seed = None }) None n s.tables ≡ Submit e
    → next_event (record { turn = turn; seed = None }) None (n + 1) (step e s).state.tables ≡ Submit f
    → (e ≡ Place 0 t) × (f ≡ run_by 0 turn)

-- EACH THREAD THAT IS READY OR ON A HART RUNS

-- one of the events is a run of so many steps, of the hart that the thread is on then
pub record IsRunAmong (t steps : ℕ) (es : List Event) (s : State) : Type 0 where
  pub before : List Event
  pub hart : ℕ
  pub after : List Event
  pub is : es ≡ before ++ run_by hart steps ∷ after
  pub on : hart_of (fold before s).state.tables hart ≡ Some t

-- so many events have 65 rounds of H harts, and one event more: 196 on one hart, 1,106 on eight
abbrev pub runs_within : (harts : ℕ) → ℕ
runs_within harts = 65 * (2 * harts + 1) + 1

-- Among so many events of a schedule without a seed, each thread that is ready or on a hart runs. Where a thread waits meanwhile, or ends, it
-- has run.
abbrev pub EachRuns : Type 0
EachRuns =
    (turn n t : ℕ) (es : List Event) (s : State) → threads.IsWellFormed s.tables.threads
    → 1 ≤ s.tables.threads.hart_count
    → (threads.is_ready s.tables.threads t ≡ true) ⊎ (threads.is_on_hart s.tables.threads t ≡ true)
    → AreScheduled (record { turn = turn; seed = None }) n es s → given_among es ≡ 0
    → runs_within s.tables.threads.hart_count ≤ length es → IsRunAmong t turn es s

-- THE CLOCK GOES ON

-- A moment that is d ticks away is reached within d rounds, and a round more for each event of an input, which may take the clock's place.
abbrev pub ClockComes : Type 0
ClockComes =
    (u : Schedule) (n d : ℕ) (es : List Event) (s : State) → AreScheduled u n es s
    → (d + given_among es) * places_of s.tables ≤ length es
    → s.tables.clock + d ≤ (fold es s).state.tables.clock
