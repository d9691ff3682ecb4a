use Rattle.std.proofs.Common.{◌≡◌}
use Rattle.ckrt_look_profile.specs.Counts.{behind_all}
use Rattle.ckrt_look_profile.specs.Steps.{met_up_to}
use Rattle.ckrt_look_profile.proofs.walk.meet_all.Given as goal

-- those so far
abbrev pub invariant-loop-thread : goal.invariant-loop-thread
invariant-loop-thread l = l.counts ≡ behind_all (met_up_to l.thread l.machine.state) l.fn.counts
