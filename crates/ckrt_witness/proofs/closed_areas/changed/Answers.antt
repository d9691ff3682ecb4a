use Rattle.std.proofs.Common.{sym, subst}
use Rattle.ckrt_disk.specs.contracts.memory.MemoryDiskDisk.TheImpl as memory
use Rattle.ckrt_stored.specs.Programs.{RecoversToStart, formatted}
use Rattle.ckrt_witness.proofs.closed_areas.changed.Goals as goal

pub returns : goal.returns
returns g c =
    let p = c.formatted.ensures in
    let disk = c.memory_disk-disk in (
      memory.ghosts.content disk.result,
      memory.ghosts.content c.change_unused.new.disk,
      c.change_unused.ensures c.if-not-change_unused.false tt (formatted p.0) (subst (RecoversToStart p.0) (sym disk.ensures.content) p.1),
    )
