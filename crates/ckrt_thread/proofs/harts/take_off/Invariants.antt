use Rattle.std.proofs.Common.{◌≡◌, ◌++◌, take, drop, map}
use Rattle.ckrt_thread.specs.State.{off}
use Rattle.ckrt_thread.proofs.harts.take_off.Given as goal

-- the harts before the index are done, and the others as they were
abbrev pub invariant-loop-hart : goal.invariant-loop-hart
invariant-loop-hart l = l.harts ≡ map (off l.thread) (take l.hart-index l.fn.harts) ++ drop l.hart-index l.fn.harts
