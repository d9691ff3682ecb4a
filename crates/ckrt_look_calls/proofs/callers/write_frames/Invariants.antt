use Rattle.ckrt_look_calls.proofs.AppendLemmas.{Completes}
use Rattle.ckrt_look_calls.specs.Moments.{caller_lines}
use Rattle.ckrt_look_calls.proofs.callers.write_frames.Given as goal

-- with the callers of the frame now, all were written
abbrev pub invariant-loop-left : goal.invariant-loop-left
invariant-loop-left g l =
    Completes (g.W.Write.contents l.fn.out) (g.W.Write.contents l.out) (caller_lines l.left l.moment l.rules l.memory.bytes l.inner)
    (caller_lines 16 l.moment l.rules l.memory.bytes l.frame)

abbrev pub decreases-loop-left : goal.decreases-loop-left
decreases-loop-left g l = l.left
