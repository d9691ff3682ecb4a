use Rattle.std.proofs.Common.{◌≡◌, replicate}
use Rattle.ckrt_look_clocks.specs.Detection.{no_clock}
use Rattle.ckrt_look_clocks.proofs.detector.fresh_clocks.Given as goal

-- so many have seen nothing
abbrev pub invariant-loop : goal.invariant-loop
invariant-loop l = l.clocks.items ≡ replicate l.counter no_clock
