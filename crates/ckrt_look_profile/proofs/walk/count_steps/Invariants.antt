use Rattle.std.proofs.Common.{◌≡◌, ◌-◌, ◌≤◌}
use Rattle.ckrt_look_calls.specs.Events.{state_behind}
use Rattle.ckrt_look_profile.specs.Counts.{behind_all}
use Rattle.ckrt_look_profile.specs.Steps.{of_rest}
use Rattle.ckrt_look_profile.proofs.walk.count_steps.Given as goal

-- with the steps that are left, all are made
abbrev pub invariant-loop-made : goal.invariant-loop-made
invariant-loop-made l = record {
  within : l.made ≤ l.more;
  state : state_behind (l.more - l.made) l.hart l.machine.state l.machine.output ≡ state_behind l.more l.hart l.fn.machine.state l.fn.machine.output;
  counted : behind_all (of_rest (l.more - l.made) l.hart l.machine.state l.machine.output) l.counts ≡ behind_all (of_rest l.more l.hart l.fn.machine.state l.fn.machine.output) l.fn.counts;
}

abbrev pub decreases-loop-made : goal.decreases-loop-made
decreases-loop-made l = l.more - l.made
