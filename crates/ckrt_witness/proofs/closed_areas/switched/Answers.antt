use Rattle.ckrt_disk.specs.contracts.memory.MemoryDiskDisk.TheImpl as memory
use Rattle.ckrt_witness.proofs.closed_areas.switched.Goals as goal

pub returns : goal.returns
returns g c =
    let r = c.saved-disk.ensures in
    (memory.ghosts.content c.saved-disk.result, c.has_both_open.ensures c.if-not-has_both_open.false tt r.0 r.1)
