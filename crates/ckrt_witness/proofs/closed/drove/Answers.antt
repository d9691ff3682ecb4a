use Rattle.std.proofs.Common.{◌≡◌, ℕ, List, None, Some, Ok, ◌∙◌, ap, subst}
use Rattle.ckrt_disk.specs.contracts.memory.MemoryDiskDisk.TheImpl as memory
use Rattle.ckrt_disk.specs.contracts.stopping.StoppingDiskDisk.TheImpl as stopping
use Rattle.ckrt_drive.specs.Offset.{offset_from}
use Rattle.ckrt_witness.specs.Drives.{Drove, Records}
use Rattle.ckrt_witness.proofs.closed.drove.Goals as goal

pub returns : goal.returns
returns g c =
    let disk = c.stopping_disk-disk in
    let told : offset_from None c.args.image.items ≡ Ok (Some c.taken-taken.result) = subst (λ (l : List ℕ). offset_from None l ≡ Ok (Some c.taken-taken.result)) c.deref.ensures.value c.taken-taken.ensures in
    let records : Records stopping.ghosts disk.result c.taken-taken.result = (None, ap (offset_from None) disk.ensures.content ∙ told) in (
      disk.result,
      disk.ensures.content,
      disk.ensures.settled,
      subst (λ (l : List ℕ). Drove stopping.ghosts memory.ghosts disk.result c.args.output l c.in-Ok.left.session.disk c.in-Ok.left.output) (c.memory_disk-input.ensures.content ∙ c.copied.ensures) (c.in-Ok.ensures tt tt tt records),
    )
