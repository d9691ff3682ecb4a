use Rattle.std.proofs.Common.{◌≡◌, ◌+◌, drop}
use Rattle.ckrt_look_calls.specs.Recorded.{lines_from}
use Rattle.ckrt_look_calls.proofs.AppendLemmas.{Completes}
use Rattle.ckrt_look_recording.proofs.WayLemmas.{HasComeTo}
use Rattle.ckrt_look_calls.proofs.recorded.write_events.Given as goal

abbrev pub invariant-loop-event : goal.invariant-loop-event
invariant-loop-event g l = let has = g.W.Write.contents in record {
  done : l.done ≡ l.count + l.event-index;
  come : HasComeTo (drop l.event-index l.events) l.events l.fn.machine.state l.machine.state;
  lines : Completes (has l.fn.out) (has l.out) (lines_from l.done (drop l.event-index l.events) l.machine.state) (lines_from l.count l.events l.fn.machine.state);
}
