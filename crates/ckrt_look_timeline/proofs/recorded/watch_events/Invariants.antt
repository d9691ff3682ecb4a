use Rattle.std.proofs.Common.{◌≡◌, ◌≤◌, ◌<◌, ◌+◌, ◌*◌, ◌++◌, ℕ, drop}
use Rattle.ckrt_look_recording.proofs.WayLemmas.{HasComeTo}
use Rattle.ckrt_look_timeline.specs.Tracks.{IsWhole, begins_of, in_events, track_in}
use Rattle.ckrt_look_timeline.proofs.recorded.watch_events.Given as goal

-- with the events ahead, all are made
abbrev pub invariant-loop-event : goal.invariant-loop-event
invariant-loop-event l = let ahead = drop l.event-index l.events in let s = l.machine.state in record {
  come : HasComeTo ahead l.events l.fn.machine.state s;
  whole : IsWhole l.timeline;
  steps : l.timeline.steps ≤ 4294967295 * l.event-index;
  tracks : (i : ℕ) → i < 64 → track_in l.timeline i ++ in_events (i + 1) ahead s ≡ track_in l.fn.timeline i ++ in_events (i + 1) l.events l.fn.machine.state;
  begins : l.begins.items ++ begins_of l.timeline.steps ahead s ≡ l.fn.begins.items ++ begins_of 0 l.events l.fn.machine.state;
}
