use Rattle.std.proofs.Common.{rules}
use Rattle.ckrt_cli_reports.proofs.fault.JobFault.name.Goals as goal

pub returns-in-Format-AlreadyFormatted : goal.returns-in-Format-AlreadyFormatted
returns-in-Format-AlreadyFormatted c = search rules
