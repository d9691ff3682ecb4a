-- A shorter schedule of a seed (this project's choice): turns that are given, by which a program comes to the same. That no shorter one does is
-- said nowhere.
use Rattle.std.specs.Prelude.{◌≡◌, ◌≤◌, ℕ, length}
use Rattle.ckrt_machine.specs.Steps.{State}
use Rattle.ckrt_hunt_schedules.specs.declared.plan.Plan.{Plan}
use Rattle.ckrt_hunt_schedules.specs.declared.runs.Told.{Told}
use Rattle.ckrt_hunt_schedules.specs.declared.shorten.Chosen.{Chosen}
use Rattle.ckrt_hunt_schedules.specs.declared.shorten.Found.{Found}
use Rattle.ckrt_hunt_schedules.specs.Runs.{ComesTo, beginning, behind}
use Rattle.ckrt_hunt_schedules.specs.Tallies.{Hunted, SeedComesTo, plan_in}

-- a run by the plan comes to what the seed comes to, in no more events
pub record Repeats (h : Hunted) (seed : ℕ) (p : Plan) : Type 0 where
  pub same : (told : Told) → SeedComesTo h seed told → ComesTo p h.start told
  pub few : (told other : Told) → (a : SeedComesTo h seed told) → (b : ComesTo p h.start other)
      → length b.events ≤ length a.events

-- the run by the plan from this state has so many switches
abbrev pub HasSwitches : Plan → State → ℕ → Type 0
HasSwitches p start n = (told : Told) → (c : ComesTo p start told)
    → (behind p c.events (beginning start)).made.switches ≡ n

-- a plan was found, and the switches of the seed's run and of its own were counted: its own are no more
pub record IsFound (h : Hunted) (seed : ℕ) (found : Found) : Type 0 where
  pub repeats : Repeats h seed found.plan
  pub drawn : HasSwitches (plan_in h seed) h.start found.drawn
  pub switches : HasSwitches found.plan h.start found.switches
  pub few : found.switches ≤ found.drawn

-- what the first seed comes to, this one comes to
abbrev pub ComesToTheSame : Hunted → (first seed : ℕ) → Type 0
ComesToTheSame h first seed = (told : Told) → SeedComesTo h first told → SeedComesTo h seed told

-- A seed was chosen for the outcome of the first one: a plan was found for it, with no more switches than one that was found for the first.
pub record IsChosen (h : Hunted) (first : ℕ) (chosen : Chosen) : Type 0 where
  pub same : ComesToTheSame h first chosen.seed
  pub is_found : IsFound h chosen.seed chosen.found
  pub own : Found
  pub is_own : IsFound h first own
  pub few : chosen.found.switches ≤ own.switches
