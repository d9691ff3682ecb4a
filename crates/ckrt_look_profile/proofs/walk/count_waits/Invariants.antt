use Rattle.std.proofs.Common.{◌≡◌, drop}
use Rattle.ckrt_look_profile.specs.Counts.{behind_all}
use Rattle.ckrt_look_profile.specs.Steps.{looks}
use Rattle.ckrt_look_profile.proofs.walk.count_waits.Given as goal

-- with those ahead, all are noted
abbrev pub invariant-loop-wait : goal.invariant-loop-wait
invariant-loop-wait l = behind_all (looks (drop l.wait-index l.waits)) l.counts ≡ behind_all (looks l.fn.waits) l.fn.counts
