use Rattle.std.proofs.Common.{◌-◌}
use Rattle.ckrt_hunt_looks.specs.Walks.{AreAlike, HasGoneOn, HasSeen, at_point}
use Rattle.ckrt_hunt_looks.proofs.walk.watch_run.Given as goal

-- the run has come so far by its schedule, on both machines
abbrev pub invariant-events : goal.invariant-events
invariant-events g l = record {
  seen : HasSeen g.L.RunLook.looks l.plan l.fn.whole.state l.fn.look (at_point l.made l.whole.state) l.look;
  alike : AreAlike l.made l.whole.state l.stepped.state;
  whole : HasGoneOn l.fn.whole l.whole;
  stepped : HasGoneOn l.fn.stepped l.stepped;
}

-- the events that are left
abbrev pub decreases-events : goal.decreases-events
decreases-events g l = l.plan.limit - l.made.events
