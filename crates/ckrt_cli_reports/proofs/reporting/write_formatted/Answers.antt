use Rattle.std.proofs.Common.{rules}
use Rattle.ckrt_cli_reports.proofs.reporting.write_formatted.Goals as goal

pub returns : goal.returns
returns g c = search rules
