-- Which event comes next (this project's choice): a function of the plan of the seed, of what the run has made so far, and of the tables.
-- A turn is a run, or a tick. Before the run of a thread that is on no hart, it goes onto one, which ends no turn.
use Rattle.std.specs.Prelude.{◌≡◌, ◌≤◌, ◌<◌, ℕ, zero, suc, ◌+◌, ◌-◌, ◌%◌, ◌==◌, ◌||◌, ◌&&◌, nat_le, nat_lt, min, Bool, true, false, is_none, if◌then◌else◌, Option, Some, None, List, option_map}
use Rattle.std.specs.List.{find}
use Rattle.ckrt_thread.specs.State as threads
use Rattle.ckrt_thread.specs.Waits.{is_of}
use Rattle.ckrt_calls.specs.declared.table.Tables.{Tables}
use Rattle.ckrt_events.specs.Bytes.{IsInRange}
use Rattle.ckrt_events.specs.declared.event.Event.{Event}
use Rattle.ckrt_events.specs.declared.event.Event.TheVariants.{Place, Run, Tick, RunLong}
use Rattle.ckrt_machine.specs.Steps.{hart_of}
use Rattle.ckrt_machine.specs.Runs.{is_running}
use Rattle.ckrt_machine.specs.Refusals.{refusal_in}
use Rattle.ckrt_schedule.specs.Next.{given_in}
use Rattle.ckrt_schedule.specs.Schedules.{earliest_deadline, idle_until, or_scheduled, run_by}
use Rattle.ckrt_schedule.specs.declared.next.Next.{Next}
use Rattle.ckrt_schedule.specs.declared.next.Next.TheVariants.{Submit, End}
use Rattle.ckrt_schedule.specs.declared.next.ScheduleEnd.TheVariants.{Ended, Enough}
use Rattle.ckrt_hunt_schedules.specs.declared.lots.TheConstants.{CLOCK, HART, LENGTH, SCALE}
use Rattle.ckrt_hunt_schedules.specs.declared.plan.Input.{Input}
use Rattle.ckrt_hunt_schedules.specs.declared.plan.Plan.{Plan}
use Rattle.ckrt_hunt_schedules.specs.declared.made.Lowered.{Lowered}
use Rattle.ckrt_hunt_schedules.specs.declared.made.Made.{Made}
use Rattle.ckrt_hunt_schedules.specs.declared.given.Turn.{Turn}
use Rattle.ckrt_hunt_schedules.specs.declared.turn.Ranked.{Ranked}
use Rattle.ckrt_hunt_schedules.specs.Given as given
use Rattle.ckrt_hunt_schedules.specs.declared.turn.Chooser.{Chooser}
use Rattle.ckrt_hunt_schedules.specs.declared.turn.Chooser.TheVariants as chooser
use Rattle.ckrt_hunt_schedules.specs.Lots.{lot_at, lots_of, shortest_of}

-- WHOSE TURN IT IS

-- the thread has not ended, and waits for nothing
abbrev pub may_run : threads.State → ℕ → Bool
may_run s t = threads.is_live s t && is_none (find (is_of t) s.waits)

-- whether it was lowered at a change point
abbrev pub is_at : Option ℕ → ℕ → Bool
is_at None t = false
is_at (Some u) t = u == t

-- its priority: who was lowered is below all who weren't, by the change point of the lowest number where it was
abbrev pub priority_of : (seed : ℕ) → Lowered → ℕ → ℕ
priority_of seed l t =
    if is_at l.first t then 0
    else if is_at l.second t then 1
    else if is_at l.third t then 2
    else lot_at seed 0 t + 3

-- the run is still one by priorities
abbrev pub has_priorities : Plan → Made → Bool
has_priorities p m = nat_lt m.steps p.horizon

-- what its rank is at a turn that is drawn: its priority, or a lot of the turn
abbrev pub drawn_rank : Plan → Made → ℕ → ℕ
drawn_rank p m t =
    if has_priorities p m then priority_of p.seed m.lowered t else lot_at p.seed (m.turns + 1) t

abbrev pub rank_by : Option Turn → Plan → Made → ℕ → ℕ
rank_by None p m t = drawn_rank p m t
rank_by (Some turn) p m t = given.rank_of turn t

-- what its rank is
abbrev pub rank_of : Plan → Made → ℕ → ℕ
rank_of p m t = rank_by (given.given_turn p m) p m t

abbrev pub ranked : Plan → Made → ℕ → Ranked
ranked p m t = record { thread = t; rank = rank_of p m t }

-- the turn behind what was made is chosen so: it is given, or drawn by the lots of its number
abbrev pub Chooses : Plan → Made → Chooser → Type 0
Chooses p m (chooser.Given turn) = given.given_turn p m ≡ Some turn
Chooses p m (chooser.Drawn lots) = (given.given_turn p m ≡ None) × (lots.state ≡ lots_of p.seed (m.turns + 1))

-- a thread's number is 1 to 64
abbrev pub IsNumbered : Ranked → Type 0
IsNumbered r = (1 ≤ r.thread) × (r.thread ≤ 64)

-- the better of two; of the same rank the one before
abbrev pub better : Option Ranked → Ranked → Option Ranked
better None b = Some b
better (Some a) b = if nat_lt a.rank b.rank then Some b else Some a

abbrev pub considered : (runs : Bool) → Ranked → Option Ranked → Option Ranked
considered true b best = better best b
considered false b best = best

-- of the threads 1 to n that may run, the one with the highest rank
unfoldable pub best_among : Plan → Made → threads.State → (n : ℕ) → Option Ranked
best_among p m s zero = None
best_among p m s (suc n) =
    considered (may_run s (suc n)) (ranked p m (suc n)) (best_among p m s n)

-- HOW LONG

-- the nearer of two points, one of them ahead
abbrev pub nearer : (steps point ahead : ℕ) → ℕ
nearer n c ahead = if nat_lt n c && nat_lt c ahead then c else ahead

-- the next change point, or the end of the priorities
abbrev pub next_point : Plan → (steps : ℕ) → ℕ
next_point p n = nearer n p.first (nearer n p.second (nearer n p.third p.horizon))

-- a length by lot, up to one of 10, 100, .., 1,000,000; short ones are likelier, and more so where the last run ended in a call
abbrev pub drawn_length : Plan → Made → ℕ
drawn_length p m =
    lot_at p.seed (m.turns + 1) LENGTH
    % shortest_of m.is_near_call (lot_at p.seed (m.turns + 1) SCALE) + 1

-- how long a turn is that is drawn: by lot, and up to the next change point at most
abbrev pub drawn_turn : Plan → Made → ℕ
drawn_turn p m =
    if has_priorities p m then min (drawn_length p m) (next_point p m.steps - m.steps)
    else drawn_length p m

abbrev pub length_by : Option Turn → Plan → Made → ℕ → ℕ
length_by None p m t = drawn_turn p m
length_by (Some turn) p m t = given.length_of turn t

-- how long the turn of a thread is
abbrev pub length_of : Plan → Made → ℕ → ℕ
length_of p m t = length_by (given.given_turn p m) p m t

-- the steps of a thread's turn, as many as are left
abbrev pub steps_of : Plan → Made → ℕ → ℕ
steps_of p m t = min (length_of p m t) (p.limit - m.steps)

-- WHAT IT IS

-- the first of n harts, h, h + 1, .., that the thread is on
unfoldable pub hart_among : (n h : ℕ) → ℕ → Tables → Option ℕ
hart_among zero h t s = None
hart_among (suc n) h t s = if threads.holds t (hart_of s h) then Some h else hart_among n (h + 1) t s

-- the first one from a hart on
abbrev pub hart_from : (h : ℕ) → ℕ → Tables → Option ℕ
hart_from h t s = hart_among (8 - h) h t s

abbrev pub hart_by : Option Turn → Plan → Made → ℕ
hart_by None p m = lot_at p.seed (m.turns + 1) HART
hart_by (Some turn) p m = given.hart_of turn

-- which hart is wanted for a thread that is on none: by lot, or the one that is given
abbrev pub wanted_hart : Plan → Made → ℕ
wanted_hart p m = hart_by (given.given_turn p m) p m

-- a thread runs on its hart, and goes onto the one that is wanted where it is on none
abbrev pub on_or_onto : Option ℕ → Plan → Made → ℕ → Tables → Event
on_or_onto (Some h) p m t s = run_by h (steps_of p m t)
on_or_onto None p m t s = Place (wanted_hart p m % s.threads.hart_count) t

-- one turn in 8 is the clock's where ticks come early, else one in 64, by lot
abbrev pub clock_period : Plan → ℕ
clock_period p = if p.is_early then 8 else 64

abbrev pub clocks_by : Option Turn → Plan → Made → Bool
clocks_by None p m = lot_at p.seed (m.turns + 1) CLOCK % clock_period p == 0
clocks_by (Some turn) p m = given.is_clocks turn

-- the turn is the clock's
abbrev pub is_clocks : Plan → Made → Bool
is_clocks p m = clocks_by (given.given_turn p m) p m

abbrev pub or_a_tick : Next → Event
or_a_tick (Submit e) = e
or_a_tick (End ending) = Tick 1

-- the clock goes on by a tick; where ticks come early, to the earliest deadline, if there is one
abbrev pub drawn_tick : Plan → Tables → Event
drawn_tick p s = if p.is_early then or_a_tick (idle_until (earliest_deadline s.threads.waits) s) else Tick 1

abbrev pub ticks_by : Option Turn → Plan → Tables → Event
ticks_by None p s = drawn_tick p s
ticks_by (Some turn) p s = Tick (given.ticks_of turn)

-- the event of a clock's turn
abbrev pub tick_by : Plan → Made → Tables → Event
tick_by p m s = ticks_by (given.given_turn p m) p s

-- the event of a turn, for the thread whose turn it is
abbrev pub event_for : Plan → Made → ℕ → Tables → Event
event_for p m t s =
    if is_clocks p m then tick_by p m s else on_or_onto (hart_from 0 t s) p m t s

-- where no thread may run, the clock goes to the earliest deadline, and without one there is nothing more to do
abbrev pub next_for : Option Ranked → Plan → Made → Tables → Next
next_for (Some r) p m s = Submit (event_for p m r.thread s)
next_for None p m s = idle_until (earliest_deadline s.threads.waits) s

-- the bytes of an input, where there is one
abbrev pub bytes_of : Input → Option (List ℕ)
bytes_of input = option_map (λ bytes. bytes.now) input.bytes

-- what the program is given of its input comes first, as soon as there is room for it
abbrev pub given_or_next : Plan → Made → Tables → Next
given_or_next p m s =
    or_scheduled (given_in (bytes_of p.input) m.taken s) (next_for (best_among p m s.threads 64) p m s)

-- an event that is refused ends a run, as a tick that the clock has no room for
abbrev pub or_enough : Next → Tables → Next
or_enough (Submit e) s = if is_none (refusal_in 0 e s) then Submit e else End Enough
or_enough (End ending) s = End ending

-- as many events or steps are made as there may be
abbrev pub is_enough : Plan → Made → Bool
is_enough p m = nat_le p.limit m.events || nat_le p.limit m.steps

-- the event that is next, or why there is none
abbrev pub next : Plan → Made → Tables → Next
next p m s =
    if is_running s.status then
    (if is_enough p m then End Enough
    else or_enough (given_or_next p m s) s)
    else End Ended

-- WHO MAKES ITS STEPS

-- how many steps it may have
abbrev pub steps_in : Event → ℕ
steps_in (Run h n) = n
steps_in (RunLong h n) = n
steps_in _ = 0

-- the thread on the hart of a run
abbrev pub runner_of : Event → Tables → Option ℕ
runner_of (Run h n) s = hart_of s h
runner_of (RunLong h n) s = hart_of s h
runner_of _ s = None

-- an event in its range, that is accepted, while events are left and steps enough for it
pub record IsFit (p : Plan) (m : Made) (s : Tables) (e : Event) : Type 0 where
  pub in_range : IsInRange e
  pub accepted : refusal_in 0 e s ≡ None
  pub limit : p.limit < 4294967296
  pub events : m.events < p.limit
  pub steps : m.steps + steps_in e ≤ p.limit

-- a next event is fit
abbrev pub IsFitNext : Plan → Made → Tables → Next → Type 0
IsFitNext p m s (Submit e) = IsFit p m s e
IsFitNext p m s (End ending) = Unit {0}

-- the same of an event before it is offered
abbrev pub IsWithin : Plan → Made → Next → Type 0
IsWithin p m (Submit e) = IsInRange e × (m.steps + steps_in e ≤ p.limit)
IsWithin p m (End ending) = Unit {0}
