use Rattle.std.proofs.Common.{◌≡◌}
use Rattle.ckrt_schedule.specs.Schedules.{next_sought}
use Rattle.ckrt_schedule.proofs.schedule.next_sought.Given as goal

-- none of the harts before it is sought
abbrev pub invariant-loop-hart : goal.invariant-loop-hart
invariant-loop-hart l = next_sought l.sought l.hart l.machine.state.tables ≡ next_sought l.sought l.from l.machine.state.tables
