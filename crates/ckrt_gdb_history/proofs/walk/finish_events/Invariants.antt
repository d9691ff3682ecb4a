use Rattle.std.proofs.Common.{◌≡◌, ◌<◌, ◌≤◌, ◌-◌, length}
use Rattle.ckrt_machine.specs.Steps.{State}
use Rattle.ckrt_gdb_history.specs.Engine.{IsAt}
use Rattle.ckrt_gdb_history.proofs.walk.finish_events.Given as goal

abbrev pub invariant-loop-at : goal.invariant-loop-at
invariant-loop-at l = record {
  at : (s : State) → IsAt l.fn.machine l.fn.from l.events s → IsAt l.machine l.at l.events s;
  events : l.at.events ≤ l.count;
  steps : l.at.steps ≤ l.fn.from.steps;
  begun : l.fn.from.events < l.at.events → l.at.steps ≡ 0;
  behind : l.fn.from.events ≤ l.at.events;
  size : length l.machine.state.bytes ≡ length l.fn.machine.state.bytes;
}

abbrev pub decreases-loop-at : goal.decreases-loop-at
decreases-loop-at l = l.count - l.at.events
