use Rattle.std.proofs.Common.{◌≡◌, ◌-◌}
use Rattle.ckrt_schedule.specs.Schedules.{greatest_ready}
use Rattle.ckrt_schedule.proofs.schedule.greatest_ready.Given as goal

-- none of the threads from it on is ready
abbrev pub invariant-loop-thread : goal.invariant-loop-thread
invariant-loop-thread l = greatest_ready (l.thread - 1) l.threads ≡ greatest_ready 64 l.threads
