use Rattle.std.proofs.Common.{◌≡◌, drop}
use Rattle.ckrt_look_recording.proofs.WayLemmas.{HasComeTo}
use Rattle.ckrt_look_profile.specs.Counts.{behind_all}
use Rattle.ckrt_look_profile.specs.Steps.{of_events}
use Rattle.ckrt_look_profile.proofs.recorded.count_events.Given as goal

-- with the events ahead, all are made
abbrev pub invariant-loop-event : goal.invariant-loop-event
invariant-loop-event l = record {
  come : HasComeTo (drop l.event-index l.events) l.events l.fn.machine.state l.machine.state;
  counted : behind_all (of_events (drop l.event-index l.events) l.machine.state) l.counts ≡ behind_all (of_events l.events l.fn.machine.state) l.fn.counts;
}
