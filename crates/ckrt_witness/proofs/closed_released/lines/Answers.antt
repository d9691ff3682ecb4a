use Rattle.std.proofs.Common.{sym, subst}
use Rattle.ckrt_stored.specs.Programs.{RecoversToStart}
use Rattle.ckrt_witness.proofs.closed_released.lines.Goals as goal

pub returns : goal.returns
returns g c = let p = c.formatted.ensures in (p.0, c.in-Some.ensures tt p.0 (subst (RecoversToStart p.0) (sym c.memory_disk-disk.ensures.content) p.1))
