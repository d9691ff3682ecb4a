-- What is told of a seed is what its run has, and no more.
use Rattle.std.specs.Prelude.{◌≡◌, ℕ}
use Rattle.std.specs.List.{AllByRecursion}
use Rattle.ckrt_look_clocks.specs.Laws.{IsRaceOf}
use Rattle.ckrt_look_heap.specs.Laws.{AreErrorsOf}
use Rattle.ckrt_look_heap.specs.Recorded.{fresh_behind}
use Rattle.ckrt_look_heap.specs.Steps.{of_events}
use Rattle.ckrt_look_races.specs.CycleLaws.{TellsCycle}
use Rattle.ckrt_look_races.specs.Laws.{history_of}
use Rattle.ckrt_look_races.specs.Recorded.{found_by, orders_by}
use Rattle.ckrt_hunt_schedules.specs.Tallies.{Hunted, SeedComesTo}
use Rattle.ckrt_hunt_schedules.specs.declared.runs.Told.{Told}
use Rattle.ckrt_hunt_looks.specs.Errors.{errors_by}
use Rattle.ckrt_hunt_looks.specs.Looks.{SeedRun}

-- each pair that is told of a seed is a race of its run, by the definition
abbrev pub OnlyRacesAreTold : Type 0
OnlyRacesAreTold =
    (h : Hunted) (seed : ℕ) → (run : SeedRun h seed)
    → AllByRecursion (IsRaceOf (history_of 0 run.events h.start)) (found_by 0 run.events h.start).pairs

-- each cycle of locks that is told of a seed is one, by the definition
abbrev pub OnlyCyclesAreTold : Type 0
OnlyCyclesAreTold =
    (h : Hunted) (seed : ℕ) → (run : SeedRun h seed)
    → AllByRecursion TellsCycle (orders_by 0 run.events h.start).found.rows

-- each error of memory that is told of a seed is one of what its run did, by the definition
abbrev pub OnlyErrorsAreTold : Type 0
OnlyErrorsAreTold =
    (h : Hunted) (seed : ℕ) → (run : SeedRun h seed)
    → AreErrorsOf (fresh_behind 0 h.start) (of_events 0 run.events h.start) (errors_by run.events h.start).rows

-- a seed has the same run again, and so the same races, orders of locks and errors of memory
abbrev pub LooksRepeat : Type 0
LooksRepeat = (h : Hunted) (seed : ℕ) → (one other : SeedRun h seed) → one.events ≡ other.events

-- it is the run whose outcome is told
abbrev pub LooksAreOfTheRun : Type 0
LooksAreOfTheRun =
    (h : Hunted) (seed : ℕ) (told : Told) → (comes : SeedComesTo h seed told) → (run : SeedRun h seed)
    → comes.events ≡ run.events
