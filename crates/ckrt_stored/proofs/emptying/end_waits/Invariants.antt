use Rattle.std.proofs.Common.{◌≡◌, length}
use Rattle.ckrt_stored.proofs.emptying.end_waits.Given as goal

-- nothing but the waits has changed
abbrev pub invariant-loop-wait : goal.invariant-loop-wait
invariant-loop-wait l = l.threads ≡ record l.fn.threads { waits = l.threads.waits }

abbrev pub decreases-loop-wait : goal.decreases-loop-wait
decreases-loop-wait l = length l.threads.waits
