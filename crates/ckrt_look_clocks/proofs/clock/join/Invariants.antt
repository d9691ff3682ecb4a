use Rattle.std.proofs.Common.{◌≡◌, take}
use Rattle.ckrt_look_clocks.specs.Detection.{joined}
use Rattle.ckrt_look_clocks.proofs.clock.join.Given as goal

-- it is joined with the first of the other
abbrev pub invariant-loop-thread : goal.invariant-loop-thread
invariant-loop-thread l = l.seen ≡ joined l.fn.seen (take l.thread l.more)
