use Rattle.std.proofs.Common.{◌∙◌}
use Rattle.ckrt_disk.specs.contracts.memory.MemoryDiskDisk.TheImpl as memory
use Rattle.ckrt_disk.specs.contracts.stopping.StoppingDiskDisk.TheImpl as stopping
use Rattle.ckrt_witness.proofs.PrintedLemmas.{holds_again}
use Rattle.ckrt_witness.proofs.closed_printed.unrecovered.Goals as goal

pub returns : goal.returns
returns g c =
    let p = c.held-disk.ensures in
    let broken = c.stopping_disk-broken in
    (p.0, c.in-Some.ensures tt p.0 _ (λ none. absurd (cc)) (holds_again memory.ghosts stopping.ghosts p.0 _ c.held-disk.result broken.result p.1 (broken.ensures.content ∙ c.into_image.ensures) broken.ensures.settled))
