use Rattle.std.proofs.Common.{◌≡◌, ◌+◌, false, drop}
use Rattle.ckrt_look_recording.proofs.WayLemmas.{HasComeTo}
use Rattle.ckrt_look_calls.specs.Walks.{after_events}
use Rattle.ckrt_look_calls.proofs.watching.watch_events.Given as goal

-- with the events ahead, all are made
abbrev pub invariant-loop-event : goal.invariant-loop-event
invariant-loop-event g l = record {
  done : l.done ≡ l.count + l.event-index;
  come : HasComeTo (drop l.event-index l.events) l.events l.fn.machine.state l.machine.state;
  watched : after_events g.W.StepWatcher.after l.done (drop l.event-index l.events) l.machine.state l.watcher ≡ after_events g.W.StepWatcher.after l.count l.events l.fn.machine.state l.fn.watcher;
  left : g.W.StepWatcher.used_up l.watcher ≡ false;
}
