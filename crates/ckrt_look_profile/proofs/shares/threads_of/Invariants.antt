use Rattle.std.proofs.Common.{◌≡◌, ◌++◌, drop}
use Rattle.ckrt_look_profile.specs.Shares.{thread_shares, threads_from}
use Rattle.ckrt_look_profile.proofs.shares.threads_of.Given as goal

-- with those ahead, these are all
abbrev pub invariant-loop-frame : goal.invariant-loop-frame
invariant-loop-frame l = (l.thread ≡ l.frame-index) × (l.shares.items ++ threads_from l.thread (drop l.frame-index l.frames) ≡ thread_shares l.fn.frames)
