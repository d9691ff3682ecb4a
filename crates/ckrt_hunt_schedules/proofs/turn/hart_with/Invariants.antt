use Rattle.std.proofs.Common.{◌≡◌}
use Rattle.ckrt_hunt_schedules.specs.Turns.{hart_from}
use Rattle.ckrt_hunt_schedules.proofs.turn.hart_with.Given as goal

-- the thread is on none of the harts before it
abbrev pub invariant-loop-hart : goal.invariant-loop-hart
invariant-loop-hart l = hart_from l.hart l.thread l.tables ≡ hart_from 0 l.thread l.tables
