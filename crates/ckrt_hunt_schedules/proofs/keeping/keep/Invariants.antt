use Rattle.std.proofs.Common.{◌≤◌, ◌-◌}
use Rattle.ckrt_hunt_schedules.specs.Kept.{HasKept}
use Rattle.ckrt_hunt_schedules.proofs.keeping.keep.Given as goal

-- the session has taken the run so far
abbrev pub invariant-events : goal.invariant-events
invariant-events g l = record {
  kept : HasKept l.plan l.fn.session l.session l.made;
  turns : l.made.turns ≤ l.made.events;
  harts : 1 ≤ l.session.progress.machine.state.tables.threads.hart_count;
}

-- the events that are left
abbrev pub decreases-events : goal.decreases-events
decreases-events g l = l.plan.limit - l.made.events
