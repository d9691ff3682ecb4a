use Rattle.std.proofs.Common.{◌≡◌, drop}
use Rattle.ckrt_look_profile.specs.Callgrind.{whole, whole_behind}
use Rattle.ckrt_look_profile.proofs.callgrind.whole.Given as goal

-- with those of the rows ahead, these are all
abbrev pub invariant-loop-place : goal.invariant-loop-place
invariant-loop-place l = whole_behind l.rows l.row l.place l.steps (drop l.place l.rows) ≡ whole l.rows l.row
