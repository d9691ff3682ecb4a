use Rattle.std.proofs.Common.{◌≡◌, length}
use Rattle.ckrt_calls.specs.Table.{feed}
use Rattle.ckrt_calls.proofs.events.feed_readers.Given as goal

abbrev pub invariant-loop-threads : goal.invariant-loop-threads
invariant-loop-threads l = feed l.input l.threads ≡ feed l.fn.input l.fn.threads

abbrev pub decreases-loop-threads : goal.decreases-loop-threads
decreases-loop-threads l = length l.input
