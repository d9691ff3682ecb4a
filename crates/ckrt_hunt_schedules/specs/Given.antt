-- Turns that are given, and not drawn (this project's choice): a schedule that a person can read names who runs, and for how long.
use Rattle.std.specs.Prelude.{ℕ, ◌+◌, ◌==◌, ◌&&◌, nat_lt, min, max, Bool, true, false, if◌then◌else◌, Option, Some, None, option_map, unwrap_or, slice_get}
use Rattle.ckrt_events.specs.declared.event.Event.{Event}
use Rattle.ckrt_events.specs.declared.event.Event.TheVariants as event
use Rattle.ckrt_machine.specs.declared.event.Answer.{Answer}
use Rattle.ckrt_machine.specs.declared.event.Answer.TheVariants.{Ran, Ticked, Placed, Taken, Closed}
use Rattle.ckrt_hunt_schedules.specs.Plans.{has_left}
use Rattle.ckrt_hunt_schedules.specs.declared.plan.Plan.{Plan}
use Rattle.ckrt_hunt_schedules.specs.declared.made.Made.{Made}
use Rattle.ckrt_hunt_schedules.specs.declared.given.Turn.{Turn}
use Rattle.ckrt_hunt_schedules.specs.declared.given.Turn.TheVariants.{Run, Tick, Lowest}

-- the turn that is given for the next one: behind the last one that is given it is that of the lowest thread
abbrev pub given_turn : Plan → Made → Option Turn
given_turn p m = option_map (λ turns. unwrap_or (slice_get turns.now m.turns) Lowest) p.turns

abbrev pub is_for : Turn → ℕ → Bool
is_for (Run u h n) t = u == t
is_for (Tick k) t = false
is_for Lowest t = false

-- the thread that the turn is given to is before all others
abbrev pub rank_of : Turn → ℕ → ℕ
rank_of turn t = if is_for turn t then 1 else 0

-- any other thread runs until it leaves its hart
abbrev pub length_of : Turn → ℕ → ℕ
length_of (Run u h n) t = if u == t then max 1 (min n 1000000) else 1000000
length_of (Tick k) t = 1000000
length_of Lowest t = 1000000

abbrev pub hart_of : Turn → ℕ
hart_of (Run u h n) = h
hart_of (Tick k) = 0
hart_of Lowest = 0

abbrev pub is_clocks : Turn → Bool
is_clocks (Run u h n) = false
is_clocks (Tick k) = true
is_clocks Lowest = false

abbrev pub ticks_of : Turn → ℕ
ticks_of (Run u h n) = 1
ticks_of (Tick k) = max 1 k
ticks_of Lowest = 1

-- WHICH TURN A RUN HAD

-- the turn of a run: as many steps as it made, or until its thread leaves its hart where it did
abbrev pub run_made : (who : Option ℕ) → (h : ℕ) → Answer → Option Turn
run_made (Some t) h (Ran n how) = Some (Run t h (if has_left how then 1000000 else n))
run_made (Some t) h (Ticked ended) = None
run_made (Some t) h Placed = None
run_made (Some t) h (Taken count) = None
run_made (Some t) h Closed = None
run_made None h a = None

-- the turn of an event, if it had one
abbrev pub turn_made : (who : Option ℕ) → Event → Answer → Option Turn
turn_made who (event.Run h n) a = run_made who h a
turn_made who (event.RunLong h n) a = run_made who h a
turn_made who (event.Tick k) a = Some (Tick k)
turn_made who (event.Place h t) a = None
turn_made who (event.Input bytes) a = None
turn_made who event.Eof a = None

-- two turns one after another that are one: both are one thread's on one hart, and the first ended before the thread left it
abbrev pub joined : Turn → Turn → Option Turn
joined (Run t h n) (Run u g k) =
    if (t == u && h == g) && nat_lt n 1000000 then Some (Run t h (min (n + k) 1000000)) else None
joined (Run t h n) (Tick k) = None
joined (Run t h n) Lowest = None
joined (Tick j) turn = None
joined Lowest turn = None
