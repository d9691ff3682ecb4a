use Rattle.std.proofs.Common.{◌≡◌, ◌-◌}
use Rattle.std.specs.Prelude.{IfSome}
use Rattle.ckrt_hunt_schedules.specs.Turns.{IsNumbered, best_among}
use Rattle.ckrt_hunt_schedules.proofs.turn.best.Given as goal

-- the threads before it have been considered
abbrev pub invariant-loop-thread : goal.invariant-loop-thread
invariant-loop-thread l =
    (l.best ≡ best_among l.plan l.made l.threads (l.thread - 1)) × IfSome l.best IsNumbered
