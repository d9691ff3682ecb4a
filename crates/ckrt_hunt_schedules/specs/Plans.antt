-- What a seed has drawn before its run begins, and what of a run its schedule goes by (this project's choice).
--
-- An even seed goes by lot alone. An odd one goes by priorities for its first k steps, and then by lot: probabilistic concurrency testing
-- (Burckhardt, Kothari, Musuvathi, Nagarakatte: "A Randomized Scheduler with Probabilistic Guarantees of Finding Bugs", ASPLOS 2010). There d is 1 to
-- 4, for d - 1 change points, and k is one of 10, 100, .., 1,000,000: an odd seed has each of these 24 pairs with the same probability. n is how many
-- threads the program makes. A scheduler that looks at the priorities before each step finds a bug of depth d, in a run of at most k steps, with a
-- probability of at least 1 / (n k^(d-1)). This one looks at them before each turn: so that is its bound only as far as no thread of a higher
-- priority is woken within a turn, the clock doesn't matter, the lots are true ones, and no thread is lowered at two change points. Such a thread
-- keeps the point of the lower number, where the algorithm has the one that was reached last.
use Rattle.std.specs.Prelude.{ℕ, ◌+◌, ◌%◌, ◌==◌, nat_le, nat_lt, min, Bool, true, false, if◌then◌else◌, Option, Some, None}
use Rattle.ckrt_machine.specs.declared.event.Answer.{Answer}
use Rattle.ckrt_machine.specs.declared.event.Answer.TheVariants.{Placed, Ran, Taken, Closed, Ticked}
use Rattle.ckrt_machine.specs.declared.event.RunEnd.{RunEnd}
use Rattle.ckrt_machine.specs.declared.event.RunEnd.TheVariants.{On, Off, End}
use Rattle.ckrt_hunt_schedules.specs.declared.lots.TheConstants.{CHANGES, CLOCK, POINTS, SCALE}
use Rattle.ckrt_hunt_schedules.specs.declared.plan.Input.{Input}
use Rattle.ckrt_hunt_schedules.specs.declared.plan.Plan.{Plan}
use Rattle.ckrt_hunt_schedules.specs.declared.made.Lowered.{Lowered}
use Rattle.ckrt_hunt_schedules.specs.declared.made.Made.{Made}
use Rattle.ckrt_hunt_schedules.specs.Lots.{lot_at, scale_of}

-- THE PLAN OF A SEED

-- ticks come early for half of the seeds, by lot
abbrev pub is_early : (seed : ℕ) → Bool
is_early seed = lot_at seed 0 CLOCK % 2 == 0

-- the step after which change point i is, of k steps; one that the seed doesn't have is at the end of the priorities, where it changes nothing
abbrev pub point_of : (seed k i : ℕ) → ℕ
point_of seed k i =
    if nat_lt i (lot_at seed 0 CHANGES % 4) then lot_at seed 0 (POINTS + i) % k + 1 else k

-- a program is given nothing to read
abbrev pub no_input : Input
no_input = record { bytes = None }

-- priorities for k steps; none, where k is 0
abbrev pub plan_with : (limit seed k : ℕ) → (first second third : ℕ) → Plan
plan_with limit seed k first second third = record {
  limit = limit;
  seed = seed;
  horizon = k;
  first = first;
  second = second;
  third = third;
  is_early = is_early seed;
  turns = None;
  input = no_input;
  ignores_output = false;
}

abbrev pub by_priorities : (limit seed k : ℕ) → Plan
by_priorities limit seed k =
    plan_with limit seed k (point_of seed k 0) (point_of seed k 1) (point_of seed k 2)

abbrev pub by_lot : (limit seed : ℕ) → Plan
by_lot limit seed = plan_with limit seed 0 0 0 0

-- the plan of a seed, for a run of at most that many steps and events
abbrev pub plan_of : (limit seed : ℕ) → Plan
plan_of limit seed =
    if seed % 2 == 0 then by_lot limit seed
    else by_priorities limit seed (scale_of (lot_at seed 0 SCALE))

-- WHAT A RUN HAS MADE

-- nothing yet
abbrev pub nothing_made : Made
nothing_made = record {
  events = 0;
  turns = 0;
  steps = 0;
  is_near_call = false;
  runner = None;
  switches = 0;
  taken = 0;
  lowered = record { first = None; second = None; third = None };
}

-- at a change point, the one who made its step is lowered, once
abbrev pub lowered_at : (point steps : ℕ) → (who : Option ℕ) → Option ℕ → Option ℕ
lowered_at point steps who (Some t) = Some t
lowered_at point steps who None = if nat_le point steps then who else None

-- who is lowered where that many steps are made, the last ones by this thread
abbrev pub lowered_by : Plan → (steps : ℕ) → (who : Option ℕ) → Lowered → Lowered
lowered_by p n who l = record {
  first = lowered_at p.first n who l.first;
  second = lowered_at p.second n who l.second;
  third = lowered_at p.third n who l.third;
}

-- the run ended as its thread left the hart: it waits, or has ended
abbrev pub has_left : RunEnd → Bool
has_left On = false
has_left Off = true
has_left End = false

-- how many times another thread has gone on: once, where the one who makes the next steps isn't the one who made the last
abbrev pub switch_to : (runner who : Option ℕ) → ℕ
switch_to None who = 0
switch_to (Some t) None = 1
switch_to (Some t) (Some u) = if t == u then 0 else 1

-- one more event, which came to this; who was on the hart of a run made its steps
abbrev pub made_with : Plan → (who : Option ℕ) → Answer → Made → Made
made_with p who (Ran n how) m = record m {
  events = m.events + 1;
  turns = m.turns + 1;
  steps = m.steps + n;
  is_near_call = has_left how;
  runner = who;
  switches = min (m.switches + switch_to m.runner who) 4294967295;
  lowered = lowered_by p (m.steps + n) who m.lowered;
}
made_with p who (Ticked ended) m = record m { events = m.events + 1; turns = m.turns + 1 }
made_with p who Placed m = record m { events = m.events + 1 }
made_with p who (Taken count) m =
    record m { events = m.events + 1; taken = min (m.taken + count) 4294967295 }
made_with p who Closed m = record m { events = m.events + 1 }

-- how many steps an answer tells of
abbrev pub steps_made : Answer → ℕ
steps_made (Ran n how) = n
steps_made (Ticked ended) = 0
steps_made Placed = 0
steps_made (Taken count) = 0
steps_made Closed = 0
