use Rattle.std.proofs.Common.{ℕ, ◌≡◌, ◌≤◌, ◌<◌, ◌+◌, ◌-◌, length}
use Rattle.ckrt_gdb_playback.specs.Limits.{steps_before, steps_made}
use Rattle.ckrt_gdb_playback.proofs.limits.last_within.Given as goal

abbrev pub invariant-loop-events : goal.invariant-loop-events
invariant-loop-events l = record {
  ahead : l.history.position.events ≤ l.events;
  within : l.events ≤ length l.history.events;
  left : l.left ≡ (steps_made l.history + l.limit) - steps_before l.events l.history;
  least : (k : ℕ) → l.history.position.events ≤ k → k < l.events → steps_before k l.history < steps_made l.history + l.limit;
}

abbrev pub decreases-loop-events : goal.decreases-loop-events
decreases-loop-events l = length l.history.events - l.events
