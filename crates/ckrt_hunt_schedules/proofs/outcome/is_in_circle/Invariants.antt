use Rattle.std.proofs.Common.{◌≡◌, ◌-◌}
use Rattle.ckrt_hunt_schedules.specs.Outcomes.{is_in_circle, is_reached}
use Rattle.ckrt_hunt_schedules.proofs.outcome.is_in_circle.Given as goal

-- what is left to be looked at decides
abbrev pub invariant-loop-turn : goal.invariant-loop-turn
invariant-loop-turn l = is_reached l.tables l.thread (64 - l._turn) l.from ≡ is_in_circle l.tables l.thread
