use Rattle.std.proofs.Common.{refl}
use Rattle.ckrt_disk.specs.contracts.memory.MemoryDiskDisk.TheImpl.{ghosts}
use Rattle.ckrt_witness.proofs.ClosedLemmas.{was_formatted}
use Rattle.ckrt_witness.proofs.closed.formatted.Goals as goal

pub returns : goal.returns
returns g c = was_formatted ghosts _ _ _ c.format.new.disk c.into_image.result.items c.in-Ok.ensures.made tt (record { size = refl; same = λ i out. refl }) c.into_image.ensures
