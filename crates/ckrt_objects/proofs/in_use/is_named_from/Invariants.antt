use Rattle.std.proofs.Common.{◌≡◌, drop}
use Rattle.ckrt_objects.specs.InUse.{is_named}
use Rattle.ckrt_objects.proofs.in_use.is_named_from.Given as goal

abbrev pub invariant-loop-place : goal.invariant-loop-place
invariant-loop-place g l = is_named g.T.Named.named l.address (drop l.place l.waits) ≡ is_named g.T.Named.named l.address (drop l.from l.waits)
