use Rattle.std.proofs.Common.{◌≡◌, ◌≤◌, ◌-◌}
use Rattle.ckrt_memory.specs.Marks.{Follows}
use Rattle.ckrt_machine.specs.Events.{memory_in}
use Rattle.ckrt_hunt_schedules.proofs.noting.note_turns.Given as goal

-- as many turns as events at most, on the same machine
abbrev pub invariant-events : goal.invariant-events
invariant-events l = record {
  turns : l.made.turns ≤ l.made.events;
  harts : l.machine.state.tables.threads.hart_count ≡ l.fn.machine.state.tables.threads.hart_count;
  follows : Follows (memory_in l.fn.machine) (memory_in l.machine);
}

-- the events that are left
abbrev pub decreases-events : goal.decreases-events
decreases-events l = l.plan.limit - l.made.events
