use Rattle.std.proofs.Common.{Err, subst}
use Rattle.ckrt_disk.specs.contracts.stopping.StoppingDiskDisk.TheImpl as stopping
use Rattle.ckrt_inspect.specs.declared.fault.InspectFault.{InspectFault}
use Rattle.ckrt_witness.specs.Inspecting.{Inspected}
use Rattle.ckrt_witness.proofs.closed_inspecting.out_of_range.Goals as goal

pub returns : goal.returns
returns g c = subst (λ (fault : InspectFault). Inspected stopping.ghosts (Err fault)) c.in-Err-Range.field-0-is (c.in-Err-Range.ensures (λ _. tt))
