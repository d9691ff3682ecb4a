use Rattle.std.proofs.Common.{◌≡◌, take}
use Rattle.std.specs.List.{flat_map}
use Rattle.ckrt_look_clocks.specs.Within.{noted_all}
use Rattle.ckrt_look_races.specs.Orders.{leaves}
use Rattle.ckrt_look_races.proofs.calls.watch_leaves.Given as goal

-- those of the waits so far
abbrev pub invariant-loop-wait : goal.invariant-loop-wait
invariant-loop-wait l = l.detector ≡ noted_all (flat_map (leaves l.place l.thread l.barrier) (take l.wait-index l.waits)) l.fn.detector
