use Rattle.std.proofs.Common.{ℕ, ◌≡◌, ◌≤◌, ◌<◌, ◌+◌, ◌-◌}
use Rattle.ckrt_gdb_playback.specs.Limits.{steps_before, steps_made}
use Rattle.ckrt_gdb_playback.proofs.limits.first_within.Given as goal

abbrev pub invariant-loop-events : goal.invariant-loop-events
invariant-loop-events l = record {
  behind : l.events ≤ l.history.position.events;
  left : l.left ≡ (steps_before l.events l.history + l.limit) - steps_made l.history;
  greatest : (k : ℕ) → l.events < k → k ≤ l.history.position.events → steps_made l.history < steps_before k l.history + l.limit;
}

abbrev pub decreases-loop-events : goal.decreases-loop-events
decreases-loop-events l = l.events
