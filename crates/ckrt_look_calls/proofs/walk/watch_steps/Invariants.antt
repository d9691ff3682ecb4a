use Rattle.std.proofs.Common.{◌≡◌, ◌-◌, ◌≤◌}
use Rattle.ckrt_memory.specs.Marks.{Follows}
use Rattle.ckrt_machine.specs.Events.{memory_in}
use Rattle.ckrt_look_calls.specs.Events.{at, state_behind}
use Rattle.ckrt_look_calls.specs.Walks.{after_rest, run_of}
use Rattle.ckrt_look_calls.proofs.walk.watch_steps.Given as goal

-- with the steps that are left, all are made
abbrev pub invariant-loop-step : goal.invariant-loop-step
invariant-loop-step g l = record {
  within : l.step ≤ l.limit;
  state : state_behind (l.limit - l.step) l.hart l.machine.state l.machine.output ≡ state_behind (l.limit - l.made.step) l.hart l.fn.machine.state l.fn.machine.output;
  follows : Follows (memory_in l.fn.machine) (memory_in l.machine);
  watched : after_rest g.W.StepWatcher.after (l.limit - l.step) l.hart (at l.made.event l.step) (run_of l.machine) l.watcher
      ≡ after_rest g.W.StepWatcher.after (l.limit - l.made.step) l.hart l.made (run_of l.fn.machine) l.fn.watcher;
}
