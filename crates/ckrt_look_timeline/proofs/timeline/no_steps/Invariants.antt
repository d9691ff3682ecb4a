use Rattle.std.proofs.Common.{◌≡◌, [], replicate}
use Rattle.ckrt_look_timeline.specs.Pieces.{tracks_of}
use Rattle.ckrt_look_timeline.proofs.timeline.no_steps.Given as goal

abbrev pub invariant-loop-thread : goal.invariant-loop-thread
invariant-loop-thread l = tracks_of l.tracks.items ≡ replicate l._thread []
