use Rattle.std.proofs.Common.{◌≡◌, ◌≤◌, ◌-◌, length}
use Rattle.ckrt_hunt_schedules.specs.Outcomes.{circled_among}
use Rattle.ckrt_hunt_schedules.proofs.outcome.circled_of.Given as goal

-- the threads before it have been looked at
abbrev pub invariant-loop-thread : goal.invariant-loop-thread
invariant-loop-thread l =
    (l.waiting.items ≡ circled_among l.tables (l.thread - 1)) × (length l.waiting.items ≤ l.thread - 1)
