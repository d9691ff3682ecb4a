-- Which event comes next (this project's choice): a function of what the input gives, of the schedule, of how many events were made before,
-- and of the tables.
use Rattle.std.specs.Prelude.{ℕ, zero, suc, ◌+◌, ◌-◌, ◌*◌, ◌/◌, ◌%◌, ◌==◌, ◌||◌, nat_le, min, max, Bool, if◌then◌else◌, Option, Some, None, is_some, unwrap_or, List, [], ◌∷◌}
use Rattle.ckrt_thread.specs.declared.records.Wait.{Wait}
use Rattle.ckrt_thread.specs.declared.records.Object.TheVariants.{Input}
use Rattle.ckrt_thread.specs.State as threads
use Rattle.ckrt_thread.specs.State.{first_waiter, is_ready}
use Rattle.ckrt_calls.specs.declared.table.Tables.{Tables}
use Rattle.ckrt_events.specs.Bytes.{IsInRange, RUN_LIMIT}
use Rattle.ckrt_events.specs.declared.event.Event.{Event}
use Rattle.ckrt_events.specs.declared.event.Event.TheVariants.{Place, Run, Tick, RunLong}
use Rattle.ckrt_machine.specs.Steps.{hart_of}
use Rattle.ckrt_machine.specs.Runs.{is_running}
use Rattle.ckrt_machine.specs.Plans.{least_ready, or_else, planned}
use Rattle.ckrt_schedule.specs.Lots.{lot_of}
use Rattle.ckrt_schedule.specs.declared.next.Next.{Next}
use Rattle.ckrt_schedule.specs.declared.next.Next.TheVariants.{Submit, End}
use Rattle.ckrt_schedule.specs.declared.next.ScheduleEnd.TheVariants.{Ended, WaitsForInput, Deadlock}
use Rattle.ckrt_schedule.specs.declared.schedule.Schedule.{Schedule}
use Rattle.ckrt_schedule.specs.declared.schedule.Sought.{Sought}
use Rattle.ckrt_schedule.specs.declared.schedule.Sought.TheVariants.{Busy, Occupied}
use Rattle.ckrt_schedule.specs.declared.schedule.Turn.{Turn}

-- THE PROGRAM

-- some thread is ready
abbrev pub is_any_ready : threads.State → Bool
is_any_ready s = is_some (least_ready 1 s)

-- whether a hart is one that is sought: an occupied one has a thread on it; a busy one has, or some thread is ready to go there
abbrev pub is_sought : Sought → Tables → ℕ → Bool
is_sought Occupied s h = is_some (hart_of s h)
is_sought Busy s h = is_some (hart_of s h) || is_any_ready s.threads

-- the first of n harts, h, h + 1, .., that is sought
abbrev pub sought_among : Sought → (n h : ℕ) → Tables → Option ℕ
sought_among sought zero h s = None
sought_among sought (suc n) h s = if is_sought sought s h then Some h else sought_among sought n (h + 1) s

-- the first one from a hart on, up to the last hart
abbrev pub next_sought : Sought → (h : ℕ) → Tables → Option ℕ
next_sought sought h s = sought_among sought (s.threads.hart_count - h) h s

abbrev pub sooner : Option ℕ → Option ℕ → Option ℕ
sooner None o = o
sooner (Some d) None = Some d
sooner (Some d) (Some e) = Some (min d e)

-- the least deadline of these waits
abbrev pub earliest_deadline : List Wait → Option ℕ
earliest_deadline [] = None
earliest_deadline (w ∷ ws) = sooner w.deadline (earliest_deadline ws)

-- the ticks from one moment to a later one, as many as one event takes
abbrev pub ticks_to : (deadline clock : ℕ) → ℕ
ticks_to deadline clock = max 1 (min (deadline - clock) 4294967295)

-- ROUNDS

-- With H harts a round has 2 H + 1 places. Those of hart h are 2 h, where a thread may be placed, and 2 h + 1, for running; the last one is
-- the clock's.
abbrev pub places_of : Tables → ℕ
places_of s = 2 * s.threads.hart_count + 1

-- Each round belongs to one of the 64 threads, by their ids in turn: whose it is after n events
abbrev pub owner_of : (n harts : ℕ) → ℕ
owner_of n harts = n / (2 * harts + 1) % 64 + 1

-- a turn at the place after n events: whose round it is, the hart that is looked at first, the thread at which an empty hart begins to
-- look, and how many steps a run has
abbrev pub turn_by : (seed : Option ℕ) → (most place n harts : ℕ) → Turn
turn_by None most place n harts =
    record {
      place = place;
      owner = owner_of n harts;
      first = place / 2;
      start = owner_of n harts;
      steps = most;
    }
turn_by (Some seed) most place n harts =
    record {
      place = place;
      owner = owner_of n harts;
      first = lot_of seed n % harts;
      start = lot_of seed n / 8 % 64 + 1;
      steps = lot_of seed n / 8 % most + 1;
    }

-- the turn after n events
abbrev pub turn_at : Schedule → (n : ℕ) → Tables → Turn
turn_at u n s = turn_by u.seed u.turn (n % places_of s) n s.threads.hart_count

-- THE NEXT EVENT

-- a run of n steps, by the shortest event that has as many
abbrev pub run_by : (h n : ℕ) → Event
run_by h n = if nat_le n RUN_LIMIT then Run h n else RunLong h n

-- the hart whose thread runs at a turn: at a place for running the first occupied one, from the turn's on and around
abbrev pub runner_at : Turn → Tables → Option ℕ
runner_at turn s = if turn.place % 2 == 1 then or_else (next_sought Occupied turn.first s) (next_sought Occupied 0 s) else None

-- WHO GOES ONTO A HART

-- the greatest ready thread of 1 to n
abbrev pub greatest_ready : (n : ℕ) → threads.State → Option ℕ
greatest_ready zero s = None
greatest_ready (suc n) s = if is_ready s (suc n) then Some (suc n) else greatest_ready n s

-- The least ready thread from a start on, which is folded into the ids up to the greatest ready one. So there is one from there on.
abbrev pub ready_from_folded : (greatest : Option ℕ) → (start : ℕ) → threads.State → Option ℕ
ready_from_folded None start s = None
ready_from_folded (Some g) start s = least_ready ((start - 1) % g + 1) s

-- the thread that an empty hart gets
abbrev pub first_ready : (start : ℕ) → threads.State → Option ℕ
first_ready start s = ready_from_folded (greatest_ready 64 s) start s

-- Who goes onto a hart at a turn: the thread whose round it is, where it is ready. Else onto an occupied hart the one that is planned, and
-- onto an empty one the first ready thread from the turn's start on.
abbrev pub chosen : Turn → (h : ℕ) → Tables → Option ℕ
chosen turn h s =
    if is_ready s.threads turn.owner then Some turn.owner
    else if is_some (hart_of s h) then planned h s
    else first_ready turn.start s.threads

-- the thread that is chosen for a hart goes onto it, and where nobody is, its thread runs
abbrev pub on_hart : (who : Option ℕ) → (h n : ℕ) → Event
on_hart (Some t) h n = Place h t
on_hart None h n = run_by h n

-- the event of a busy hart
abbrev pub of_busy : Turn → (h : ℕ) → Tables → Event
of_busy turn h s = on_hart (chosen turn h s) h turn.steps

-- the thread of the hart that runs does so; where none does, it is for the first busy hart, from the turn's on and around
abbrev pub of_runner : (runner : Option ℕ) → Turn → (least : ℕ) → Tables → Event
of_runner (Some h) turn least s = run_by h turn.steps
of_runner None turn least s = of_busy turn (unwrap_or (next_sought Busy turn.first s) least) s

-- the event of a turn, where `least` is the least busy hart
abbrev pub event_at : Turn → (least : ℕ) → Tables → Event
event_at turn least s = if turn.place == 2 * s.threads.hart_count then Tick 1 else of_runner (runner_at turn s) turn least s

-- nobody is on a hart or ready: the clock goes to the earliest deadline, and without one there is nothing more to do
abbrev pub idle_until : Option ℕ → Tables → Next
idle_until (Some d) s = Submit (Tick (ticks_to d s.clock))
idle_until None s = End (if is_some (first_waiter Input s.threads) then WaitsForInput else Deadlock)

abbrev pub next_by : (least : Option ℕ) → Turn → Tables → Next
next_by (Some h) turn s = Submit (event_at turn h s)
next_by None turn s = idle_until (earliest_deadline s.threads.waits) s

-- what the input gives comes first
abbrev pub or_scheduled : (given : Option Event) → Next → Next
or_scheduled (Some e) scheduled = Submit e
or_scheduled None scheduled = scheduled

-- the event that is next after n others, or why there is none
abbrev pub next_event : Schedule → (given : Option Event) → (n : ℕ) → Tables → Next
next_event u given n s =
    if is_running s.status
    then or_scheduled given (next_by (next_sought Busy 0 s) (turn_at u n s) s)
    else End Ended

-- the event's fields are in their ranges
abbrev pub IsInRangeNext : Next → Type 0
IsInRangeNext (Submit e) = IsInRange e
IsInRangeNext (End ending) = Unit {0}
