-- A run of a seed: the events that its schedule has, one after another, and what they come to.
use Rattle.std.specs.Prelude.{◌≡◌, ℕ, List, [], ◌∷◌}
use Rattle.sha2.specs.Hashers.{Holds256}
use Rattle.ckrt_events.specs.declared.event.Event.{Event}
use Rattle.ckrt_machine.specs.Steps.{State}
use Rattle.ckrt_machine.specs.Events.{AllAccepted, fold, output_of, step}
use Rattle.ckrt_schedule.specs.declared.next.Next.{Next}
use Rattle.ckrt_schedule.specs.declared.next.Next.TheVariants.{Submit, End}
use Rattle.ckrt_schedule.specs.declared.next.ScheduleEnd.{ScheduleEnd}
use Rattle.ckrt_hunt_schedules.specs.declared.plan.Plan.{Plan}
use Rattle.ckrt_hunt_schedules.specs.declared.made.Made.{Made}
use Rattle.ckrt_hunt_schedules.specs.declared.heard.Heard.{Heard}
use Rattle.ckrt_hunt_schedules.specs.declared.runs.Finished.{Finished}
use Rattle.ckrt_hunt_schedules.specs.declared.runs.Told.{Told}
use Rattle.ckrt_hunt_schedules.specs.LastLines.{last_line}
use Rattle.ckrt_hunt_schedules.specs.Plans.{made_with, nothing_made}
use Rattle.ckrt_hunt_schedules.specs.Turns.{next, runner_of}
use Rattle.ckrt_hunt_schedules.specs.Outcomes.{digest_of, outcome_of}

-- how far a run is: what it has made, and the machine's state
pub record Point : Type 0 where
  pub made : Made
  pub state : State

-- the beginning of a run
abbrev pub beginning : State → Point
beginning s = record { made = nothing_made; state = s }

-- one event on
abbrev pub on : Plan → Event → Point → Point
on p e x = record {
  made = made_with p (runner_of e x.state.tables) (step e x.state).answer x.made;
  state = (step e x.state).state;
}

-- after some events
abbrev pub behind : Plan → List Event → Point → Point
behind p [] x = x
behind p (e ∷ es) x = behind p es (on p e x)

-- what the schedule has at a point
abbrev pub next_at : Plan → Point → Next
next_at p x = next p x.made x.state.tables

-- each event is the one that the schedule has at its turn
abbrev pub AreScheduled : Plan → List Event → Point → Type 0
AreScheduled p [] x = Unit {0}
AreScheduled p (e ∷ es) x = (next_at p x ≡ Submit e) × AreScheduled p es (on p e x)

-- all of an output was heard
pub record Hears (h : Heard) (output : List ℕ) : Type 0 where
  pub digest : Holds256 h.hasher output
  pub last_line : h.last_line ≡ last_line output

-- A run by this plan has come to a point by these events, and what they put was heard.
pub record HasCome (p : Plan) (start : State) (events : List Event) (x : Point) (heard : Heard) : Type 0 where
  pub scheduled : AreScheduled p events (beginning start)
  pub accepted : AllAccepted events start
  pub point : x ≡ behind p events (beginning start)
  pub folded : x.state ≡ (fold events start).state
  pub output : Hears heard (output_of events start)

-- A run from this state comes to what is told of it: its events are those of the schedule, up to the one that has none after it; each is
-- accepted at its turn; and the outcome and the digest are those of the plain fold over them.
pub record ComesTo (p : Plan) (start : State) (told : Told) : Type 0 where
  pub events : List Event
  pub ending : ScheduleEnd
  pub scheduled : AreScheduled p events (beginning start)
  pub ended : next_at p (behind p events (beginning start)) ≡ End ending
  pub accepted : AllAccepted events start
  pub outcome : told.outcome ≡ outcome_of ending (fold events start).state.tables
  pub digest : told.digest ≡ digest_of p.ignores_output told.outcome (output_of events start)

-- the same, what the run has made then, and the last line that it has put
pub record EndsWith (p : Plan) (start : State) (run : Finished) : Type 0 where
  pub comes : ComesTo p start run.told
  pub has_made : run.made ≡ (behind p comes.events (beginning start)).made
  pub said : run.said ≡ last_line (output_of comes.events start)

-- the same by some events
pub record HasComeTo (p : Plan) (start : State) (made : Made) (state : State) (heard : Heard) : Type 0 where
  pub events : List Event
  pub come : HasCome p start events (record { made = made; state = state }) heard
