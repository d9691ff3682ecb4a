use Rattle.std.proofs.Common.{◌≡◌}
use Rattle.ckrt_look_clocks.specs.Cycles.{links}
use Rattle.ckrt_look_clocks.proofs.inversion.links.Given as goal

-- so many links
abbrev pub invariant-loop-number : goal.invariant-loop-number
invariant-loop-number l = l.links ≡ links l.number l.orders l.path
