use Rattle.std.proofs.Common.{◌≡◌, ◌≤◌, length}
use Rattle.ckrt_gdb_history.specs.Extended.{extended}
use Rattle.ckrt_gdb_history.proofs.history.History.extend.Given as goal

-- what is to follow is what was to follow at first, behind the events that were made
abbrev pub invariant-events : goal.invariant-events
invariant-events l = record {
  same : extended l.left l.schedule l.first l.self ≡ extended l.fn.most l.schedule l.first l.fn.self;
  end : length l.self.events ≤ l.self.position.events;
}

abbrev pub decreases-events : goal.decreases-events
decreases-events l = l.left
