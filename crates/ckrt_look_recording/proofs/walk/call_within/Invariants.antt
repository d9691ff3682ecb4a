use Rattle.std.proofs.Common.{◌≡◌}
use Rattle.ckrt_look_recording.specs.Frames.{call_within}
use Rattle.ckrt_look_recording.proofs.walk.call_within.Given as goal

abbrev pub invariant-loop-left : goal.invariant-loop-left
invariant-loop-left l = call_within l.left l.kit l.rules l.memory.bytes l.inner ≡ call_within l.most l.kit l.rules l.memory.bytes l.frame

abbrev pub decreases-loop-left : goal.decreases-loop-left
decreases-loop-left l = l.left
