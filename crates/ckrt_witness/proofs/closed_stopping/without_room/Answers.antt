use Rattle.ckrt_disk.specs.contracts.stopping.StoppingDiskDisk.TheImpl as stopping
use Rattle.ckrt_drive.specs.declared.fault.DriveFault.TheVariants.{OutputFull}
use Rattle.ckrt_witness.proofs.StoppingLemmas.{with_fault}
use Rattle.ckrt_witness.proofs.closed_stopping.without_room.Goals as goal

pub returns : goal.returns
returns g c = λ p start. let it = with_fault stopping.ghosts stopping.ghosts p c.in-Some-OutputFull.field-0 OutputFull c.in-Some-OutputFull.field-0-is (c.in-Some-OutputFull.ensures (λ _. tt) (λ _. tt) p start) in it.0
