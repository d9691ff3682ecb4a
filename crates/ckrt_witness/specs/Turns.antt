-- What meets the premises of the promise of turns.
use Rattle.std.specs.Prelude.{◌≡◌, ◌≤◌, ℕ, true, false, None, List, length}
use Rattle.ckrt_thread.specs.State as threads
use Rattle.ckrt_events.specs.declared.event.Event.{Event}
use Rattle.ckrt_machine.specs.Events.{fold, step}
use Rattle.ckrt_machine.specs.Steps.{State}
use Rattle.ckrt_schedule.specs.declared.next.Next.TheVariants.{Submit}
use Rattle.ckrt_schedule.specs.declared.schedule.Schedule.{Schedule}
use Rattle.ckrt_schedule.specs.Schedules.{next_event}
use Rattle.ckrt_schedule.specs.Turns.{AreScheduled, given_among, is_given, runs_within}

-- an event that the schedule has next after n others leads from one state to another
pub record Makes (u : Schedule) (n : ℕ) (s z : State) : Type 0 where
  pub event : Event
  pub next : next_event u None n s.tables ≡ Submit event
  pub given : is_given event ≡ false
  pub state : z ≡ (step event s).state

-- n of them, one behind another, do
pub record MakesAll (u : Schedule) (n : ℕ) (s z : State) : Type 0 where
  pub events : List Event
  pub scheduled : AreScheduled u 0 events s
  pub given : given_among events ≡ 0
  pub many : length events ≡ n
  pub state : z ≡ (fold events s).state

-- A state and events of a schedule without a seed, as many as the promise speaks of: thread 1 is ready, and no input is among them. So all
-- premises of its laws hold.
pub record TurnWitness (turn : ℕ) (s : State) : Type 0 where
  pub well_formed : threads.IsWellFormed s.tables.threads
  pub some : 1 ≤ s.tables.threads.hart_count
  pub ready : threads.is_ready s.tables.threads 1 ≡ true
  pub events : List Event
  pub scheduled : AreScheduled (record { turn = turn; seed = None }) 0 events s
  pub given : given_among events ≡ 0
  pub many : runs_within s.tables.threads.hart_count ≤ length events
