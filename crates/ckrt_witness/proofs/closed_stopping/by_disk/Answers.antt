use Rattle.std.proofs.Common.{refl}
use Rattle.ckrt_disk.specs.contracts.stopping.StoppingDiskDisk.TheImpl as stopping
use Rattle.ckrt_drive.specs.declared.fault.DriveFault.TheVariants.{Device}
use Rattle.ckrt_witness.proofs.StoppingLemmas.{with_fault}
use Rattle.ckrt_witness.proofs.closed_stopping.by_disk.Goals as goal

pub returns : goal.returns
returns g c = λ p start. let it = with_fault stopping.ghosts stopping.ghosts p c.in-Some-Device.field-0 Device c.in-Some-Device.field-0-is (c.in-Some-Device.ensures (λ _. tt) (λ _. tt) p start) in (it.0, it.1 refl)
