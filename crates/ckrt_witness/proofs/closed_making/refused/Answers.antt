use Rattle.std.proofs.Common.{Err, subst}
use Rattle.ckrt_disk.specs.contracts.stopping.StoppingDiskDisk.TheImpl as stopping
use Rattle.ckrt_cli_reports.specs.declared.fault.JobFault.{JobFault}
use Rattle.ckrt_cli_reports.specs.declared.fault.JobFault.TheVariants.{Format}
use Rattle.ckrt_stored.specs.declared.fault.FormatFault.{FormatFault}
use Rattle.ckrt_witness.specs.Making.{Made}
use Rattle.ckrt_witness.proofs.closed_making.refused.Goals as goal

pub returns : goal.returns
returns g c = subst (λ (f : FormatFault). Made stopping.ghosts c.args.config c.args.guest.now c.args.disk (Err (Format f))) c.expect_fault.ensures (subst (λ (f : JobFault). Made stopping.ghosts c.args.config c.args.guest.now c.args.disk (Err f)) c.in-Some-Format.field-0-is c.in-Some-Format.ensures)
