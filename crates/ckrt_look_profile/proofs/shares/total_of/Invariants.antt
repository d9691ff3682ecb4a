use Rattle.std.proofs.Common.{◌≡◌, drop}
use Rattle.ckrt_look_profile.specs.Shares.{total_behind}
use Rattle.ckrt_look_profile.proofs.shares.total_of.Given as goal

-- with those ahead, these are all
abbrev pub invariant-loop-frame : goal.invariant-loop-frame
invariant-loop-frame l = total_behind l.total (drop l.frame-index l.frames) ≡ total_behind 0 l.fn.frames
