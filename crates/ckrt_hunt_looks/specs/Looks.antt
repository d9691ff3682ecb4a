-- Looks at the runs of a hunt: what a look notes of each, and what is counted of all.
use Rattle.std.specs.Prelude.{◌≡◌, ◌≤◌, ℕ, zero, suc, ◌+◌, ◌-◌, List, [], ◌∷◌}
use Rattle.ckrt_events.specs.declared.event.Event.{Event}
use Rattle.ckrt_machine.specs.Events.{AllAccepted, step}
use Rattle.ckrt_machine.specs.Steps.{State}
use Rattle.ckrt_schedule.specs.declared.next.Next.TheVariants.{End}
use Rattle.ckrt_schedule.specs.declared.next.ScheduleEnd.{ScheduleEnd}
use Rattle.ckrt_hunt_schedules.specs.Runs.{AreScheduled, beginning, behind, next_at}
use Rattle.ckrt_hunt_schedules.specs.Tallies.{Hunted, IsNoted, SeedEndsWith, plan_in}
use Rattle.ckrt_hunt_schedules.specs.declared.plan.Plan.{Plan}
use Rattle.ckrt_hunt_schedules.specs.declared.runs.Finished.{Finished}
use Rattle.ckrt_hunt_schedules.specs.declared.seeds.Seeds.{Seeds}
use Rattle.ckrt_hunt_schedules.specs.declared.tally.Tally.{Tally}

-- A WHOLE RUN by a plan, from a state on: its events are those of the schedule, up to the one that has none after it, and each is accepted at its turn
pub record WholeRun (p : Plan) (start : State) : Type 0 where
  pub events : List Event
  pub ending : ScheduleEnd
  pub scheduled : AreScheduled p events (beginning start)
  pub ended : next_at p (behind p events (beginning start)) ≡ End ending
  pub accepted : AllAccepted events start

-- that of a seed, from the program's beginning on
abbrev pub SeedRun : Hunted → (seed : ℕ) → Type 0
SeedRun h seed = WholeRun (plan_in h seed) h.start

-- A LOOK: what it has noted is an L, and what is counted of runs a T. At first it has noted nothing of a program that begins with a state, in a room of
-- so many bytes. It says what it notes of the event after the first k, what is counted of the run of a seed by its events, and which fill the room
pub record Looking (L T : Type 0) : Type 1 where
  pub fresh : (room : ℕ) → State → L
  pub noted : (k : ℕ) → Event → State → L → L
  pub IsNothing : T → Type 0
  pub Counts : (seed : ℕ) → List Event → State → (old new : T) → Type 0
  pub Fills : (room : ℕ) → List Event → State → Type 0

-- what it has noted with these events, of which the first comes after n others
abbrev pub noted_by : {L T : Type 0} → Looking L T → (n : ℕ) → List Event → State → L → L
noted_by k n [] s l = l
noted_by k n (e ∷ es) s l = noted_by k (n + 1) es (step e s).state (k.noted n e s l)

-- it has noted the first events of a program, in a room of so many bytes
abbrev pub IsBehind : {L T : Type 0} → Looking L T → (room : ℕ) → List Event → State → L → Type 0
IsBehind k room es s l = l ≡ noted_by k 0 es s (k.fresh room s)

-- WHAT IS HUNTED with a look, in a room of so many bytes
pub record LookHunted (L : Type 0) : Type 0 where
  pub hunt : Hunted
  pub room : ℕ
  pub look : L

-- a hunt of this program in this room, whose look has noted nothing yet, or a run that it forgets before the next one
pub record IsHuntOf {L T : Type 0} (k : Looking L T) (bytes : ℕ) (h : Hunted) (it : LookHunted L) : Type 0 where
  pub hunt : it.hunt ≡ h
  pub room : it.room ≡ bytes
  pub events : List Event
  pub noted : IsBehind k bytes events h.start it.look

-- the run of a seed fills the room
pub record SeedFills {L T : Type 0} (k : Looking L T) (room : ℕ) (h : Hunted) (seed : ℕ) : Type 0 where
  pub run : SeedRun h seed
  pub fills : k.Fills room run.events h.start

-- that of some seed of a range does
pub record FillsSome {L T : Type 0} (k : Looking L T) (room : ℕ) (h : Hunted) (seeds : Seeds) : Type 0 where
  pub seed : ℕ
  pub first : seeds.first ≤ seed
  pub last : seed ≤ seeds.last
  pub fills : SeedFills k room h seed

-- ONE SEED AFTER ANOTHER

-- the run of a seed was counted too
pub record IsLookedAt {L T : Type 0} (k : Looking L T) (h : Hunted) (seed : ℕ) (old new : T) : Type 0 where
  pub run : SeedRun h seed
  pub counted : k.Counts seed run.events h.start old new

-- the same out of what something was so of
pub record GrewBy {L T : Type 0} (k : Looking L T) (WasSo : T → Type 0) (h : Hunted) (seed : ℕ) (new : T) : Type 0 where
  pub before : T
  pub was_so : WasSo before
  pub looked_at : IsLookedAt k h seed before new

-- n seeds were looked at, from one on: each in its turn
abbrev pub AreLookedAt : {L T : Type 0} → Looking L T → Hunted → (first n : ℕ) → (old new : T) → Type 0
AreLookedAt k h first zero old new = new ≡ old
AreLookedAt k h first (suc n) old new = GrewBy k (AreLookedAt k h first n old) h (first + n) new

-- what is counted of all seeds of a range, from nothing on
pub record IsLookOf {L T : Type 0} (k : Looking L T) (h : Hunted) (seeds : Seeds) (counted : T) : Type 0 where
  pub begun : T
  pub nothing : k.IsNothing begun
  pub looked : AreLookedAt k h seeds.first (seeds.last - seeds.first + 1) begun counted

-- what a seed comes to was noted too
pub record IsSeedNoted (h : Hunted) (seed : ℕ) (old new : Tally) : Type 0 where
  pub run : Finished
  pub ends : SeedEndsWith h seed run
  pub noted : IsNoted seed run old new
