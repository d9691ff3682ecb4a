-- The look at races: what it notes of a run, and what is counted of all.
use Rattle.std.specs.Prelude.{◌≡◌, ℕ, nat_lt, Bool, ◌||◌, length, List}
use Rattle.ckrt_events.specs.declared.event.Event.{Event}
use Rattle.ckrt_machine.specs.Steps.{State}
use Rattle.ckrt_look_clocks.specs.Detection.{Found}
use Rattle.ckrt_look_clocks.specs.LockHistories.{Ordered}
use Rattle.ckrt_look_clocks.specs.Within.{Detected, noted_all}
use Rattle.ckrt_look_clocks.specs.declared.inversion.Inversion.{Inversion}
use Rattle.ckrt_look_clocks.specs.declared.pair.Pair.{Pair}
use Rattle.ckrt_look_races.specs.Recorded.{FillsRoom, found_by, fresh_for, orders_by}
use Rattle.ckrt_look_races.specs.Steps.{of_event}
use Rattle.ckrt_hunt_looks.specs.Kinds.{cycle_kind, pair_kind}
use Rattle.ckrt_hunt_looks.specs.Looks.{Looking}
use Rattle.ckrt_hunt_looks.specs.Rows.{Rows, no_rows, rows_in, with_run}
use Rattle.ckrt_hunt_looks.specs.declared.tally.RaceTally.{RaceTally}

-- the pairs of places that raced, and the cycles of locks
pub record Raced : Type 0 where
  pub pairs : Rows Pair
  pub cycles : Rows Inversion

abbrev pub races_in : RaceTally → Raced
races_in t = record { pairs = rows_in t.pairs; cycles = rows_in t.cycles }

abbrev pub no_races : Raced
no_races = record { pairs = no_rows; cycles = no_rows }

-- some run had a race or a cycle
abbrev pub has_race : RaceTally → Bool
has_race t = nat_lt 0 (length t.pairs.rows.items) || nat_lt 0 (length t.cycles.rows.items)

-- one run more, that of this seed, which had these races and these orders of locks
abbrev pub with_races : (seed : ℕ) → Found → Ordered → Raced → Raced
with_races seed f o t = record {
  pairs = with_run pair_kind seed f.pairs f.others t.pairs;
  cycles = with_run cycle_kind seed o.found.rows o.found.others t.cycles;
}

-- a run is counted by the races that its events have, and by their cycles of locks
abbrev pub CountsRaces : (seed : ℕ) → List Event → State → (old new : RaceTally) → Type 0
CountsRaces seed es s old new =
    races_in new ≡ with_races seed (found_by 0 es s) (orders_by 0 es s) (races_in old)

-- THE LOOK: its detector notes the operations of each event, and fills its room where `ckrt races` does
abbrev pub race_look : Looking Detected RaceTally
race_look = record {
  fresh = fresh_for;
  noted = λ k e s d. noted_all (of_event k e s) d;
  IsNothing = λ t. races_in t ≡ no_races;
  Counts = CountsRaces;
  Fills = λ room es s. FillsRoom room 0 es s;
}
