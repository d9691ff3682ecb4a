use Rattle.std.proofs.Common.{◌≡◌}
use Rattle.ckrt_machine.specs.Plans.{least_ready}
use Rattle.ckrt_machine.proofs.plan.ready.Given as goal

abbrev pub invariant-loop-thread : goal.invariant-loop-thread
invariant-loop-thread l = least_ready l.thread l.threads ≡ least_ready l.from l.threads
