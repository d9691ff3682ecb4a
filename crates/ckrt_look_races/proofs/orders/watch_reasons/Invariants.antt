use Rattle.std.proofs.Common.{◌≡◌, take}
use Rattle.std.specs.List.{flat_map}
use Rattle.ckrt_look_clocks.specs.Within.{noted_all}
use Rattle.ckrt_look_races.specs.Orders.{of_wait}
use Rattle.ckrt_look_races.proofs.orders.watch_reasons.Given as goal

-- those of the waits so far
abbrev pub invariant-loop-wait : goal.invariant-loop-wait
invariant-loop-wait l = l.detector ≡ noted_all (flat_map (of_wait l.place l.after) (take l.wait-index l.before)) l.fn.detector
