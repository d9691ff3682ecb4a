use Rattle.std.proofs.Common.{◌≡◌, ◌-◌, ◌≤◌}
use Rattle.ckrt_look_calls.specs.Events.{lines_after, state_behind}
use Rattle.ckrt_look_calls.proofs.AppendLemmas.{Completes}
use Rattle.ckrt_look_calls.proofs.events.trace_steps.Given as goal

abbrev pub invariant-loop-step : goal.invariant-loop-step
invariant-loop-step g l = record {
  within : l.step ≤ l.limit;
  state : state_behind (l.limit - l.step) l.hart l.machine.state l.machine.output ≡ state_behind (l.limit - l.made.step) l.hart l.fn.machine.state l.fn.machine.output;
  lines : Completes (g.W.Write.contents l.fn.out) (g.W.Write.contents l.out) (lines_after l.made.event (l.limit - l.step) l.step l.hart l.machine.state l.machine.output) (lines_after l.made.event (l.limit - l.made.step) l.made.step l.hart l.fn.machine.state l.fn.machine.output);
}

abbrev pub decreases-loop-step : goal.decreases-loop-step
decreases-loop-step g l = l.limit - l.step
