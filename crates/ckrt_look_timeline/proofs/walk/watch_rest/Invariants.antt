use Rattle.std.proofs.Common.{◌≡◌, ◌≤◌, ◌<◌, ◌+◌, ◌++◌, ℕ}
use Rattle.ckrt_look_calls.specs.Events.{state_behind}
use Rattle.ckrt_look_timeline.specs.Tracks.{IsWhole, in_rest, track_in}
use Rattle.ckrt_look_timeline.proofs.walk.watch_rest.Given as goal

abbrev pub invariant-loop-left : goal.invariant-loop-left
invariant-loop-left l = let old = l.fn.machine in let m = l.machine in let h = l.hart in record {
  state : state_behind l.left h m.state m.output ≡ state_behind l.limit h old.state old.output;
  whole : IsWhole l.timeline;
  steps : l.timeline.steps + l.left ≤ l.fn.timeline.steps + l.limit;
  tracks : (i : ℕ) → i < 64 → track_in l.timeline i ++ in_rest (i + 1) l.left h m.state m.output ≡ track_in l.fn.timeline i ++ in_rest (i + 1) l.limit h old.state old.output;
}

abbrev pub decreases-loop-left : goal.decreases-loop-left
decreases-loop-left l = l.left
