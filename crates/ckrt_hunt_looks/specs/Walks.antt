-- The walk of a run, by two machines side by side, with a look at it.
use Rattle.std.specs.Prelude.{◌≡◌, ◌≤◌, List, length}
use Rattle.ckrt_events.specs.declared.event.Event.{Event}
use Rattle.ckrt_calls.specs.WellFormed.{IsWellFormed}
use Rattle.ckrt_memory.specs.Marks.{Follows}
use Rattle.ckrt_machine.specs.Events.{AllAccepted, Machine, fold, memory_in}
use Rattle.ckrt_machine.specs.Steps.{State}
use Rattle.ckrt_hunt_schedules.specs.Runs.{AreScheduled, Point, beginning, behind}
use Rattle.ckrt_hunt_schedules.specs.Tallies.{Hunted, IsRoomFor}
use Rattle.ckrt_hunt_schedules.specs.declared.made.Made.{Made}
use Rattle.ckrt_hunt_schedules.specs.declared.plan.Plan.{Plan}
use Rattle.ckrt_hunt_looks.specs.declared.beginning.Beginning.{Beginning}
use Rattle.ckrt_hunt_looks.specs.Looks.{Looking, WholeRun, noted_by}

-- a point of a run
abbrev pub at_point : Made → State → Point
at_point m s = record { made = m; state = s }

-- so far it has come, and a look that had noted f at its beginning has noted its events
pub record HasSeen {L T : Type 0} (k : Looking L T) (p : Plan) (start : State) (f : L) (x : Point) (l : L) : Type 0 where
  pub events : List Event
  pub scheduled : AreScheduled p events (beginning start)
  pub accepted : AllAccepted events start
  pub point : x ≡ behind p events (beginning start)
  pub folded : x.state ≡ (fold events start).state
  pub count : x.made.events ≡ length events
  pub noted : l ≡ noted_by k 0 events start f

-- it has come to its end
pub record Sees {L T : Type 0} (k : Looking L T) (p : Plan) (start : State) (f l : L) : Type 0 where
  pub run : WholeRun p start
  pub noted : l ≡ noted_by k 0 run.events start f

-- both machines are in one state
pub record AreAlike (m : Made) (whole stepped : State) : Type 0 where
  pub same : stepped ≡ whole
  pub turns : m.turns ≤ m.events
  pub harts : 1 ≤ whole.tables.threads.hart_count

pub record HasBegun (whole stepped : State) : Type 0 where
  pub same : stepped ≡ whole
  pub harts : 1 ≤ whole.tables.threads.hart_count

-- a machine went on: it has as many harts, and what changed of its memory is marked
pub record HasGoneOn (old new : Machine) : Type 0 where
  pub harts : new.state.tables.threads.hart_count ≡ old.state.tables.threads.hart_count
  pub follows : Follows (memory_in old) (memory_in new)

-- A MACHINE AT THE BEGINNING, and the room for that beginning
pub record IsBegun (s : State) (b : Beginning) : Type 0 where
  pub state : b.machine.state ≡ s
  pub room : IsRoomFor s b.memory b.tables

-- a state was put aside
pub record IsPutAside (s : State) (b : Beginning) : Type 0 where
  pub memory : b.memory.bytes ≡ s.bytes
  pub tables : b.tables ≡ s.tables
  pub well_formed : IsWellFormed b.tables
  pub some : 1 ≤ s.tables.threads.hart_count

-- both machines of a hunt are at the beginning of its program
pub record AreBegun (h : Hunted) (first second : Beginning) : Type 0 where
  pub whole : IsBegun h.start first
  pub stepped : IsBegun h.start second
