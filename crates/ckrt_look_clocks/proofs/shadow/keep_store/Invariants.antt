use Rattle.std.proofs.Common.{◌≡◌}
use Rattle.ckrt_look_clocks.specs.Detection.{stored}
use Rattle.ckrt_look_clocks.proofs.shadow.keep_store.Given as goal

-- so many bytes have it
abbrev pub invariant-loop-done : goal.invariant-loop-done
invariant-loop-done l = l.stores ≡ stored l.done l.first l.access l.fn.stores
