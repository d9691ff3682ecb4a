use Rattle.std.proofs.Common.{◌≡◌}
use Rattle.ckrt_look_clocks.specs.Cycles.{row_of}
use Rattle.ckrt_look_clocks.proofs.inversion.row_of.Given as goal

-- the last so far
abbrev pub invariant-loop-place : goal.invariant-loop-place
invariant-loop-place l = l.row ≡ row_of l.place l.inversion l.rows
