use Rattle.std.proofs.Common.{◌≡◌, ◌≤◌, ◌-◌}
use Rattle.ckrt_memory.specs.Marks.{Follows}
use Rattle.ckrt_machine.specs.Events.{memory_in}
use Rattle.ckrt_hunt_schedules.specs.Runs.{HasComeTo}
use Rattle.ckrt_hunt_schedules.proofs.runs.run.Given as goal

-- the run has come so far by its schedule
abbrev pub invariant-events : goal.invariant-events
invariant-events l = record {
  come : HasComeTo l.plan l.fn.machine.state l.made l.machine.state l.heard;
  turns : l.made.turns ≤ l.made.events;
  harts : l.machine.state.tables.threads.hart_count ≡ l.fn.machine.state.tables.threads.hart_count;
  follows : Follows (memory_in l.fn.machine) (memory_in l.machine);
}

-- the events that are left
abbrev pub decreases-events : goal.decreases-events
decreases-events l = l.plan.limit - l.made.events
