use Rattle.std.proofs.Common.{◌≡◌}
use Rattle.ckrt_look_values.specs.Instructions.{forgotten}
use Rattle.ckrt_look_values.proofs.calls.forget.Given as goal

-- the registers so far
abbrev pub invariant-loop-register : goal.invariant-loop-register
invariant-loop-register l = l.values ≡ forgotten l.register l.thread l.fn.values
