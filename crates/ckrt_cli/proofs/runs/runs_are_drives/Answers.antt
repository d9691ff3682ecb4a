use Rattle.ckrt_cli.proofs.DriveRunLemmas.{is_run}
use Rattle.ckrt_cli.proofs.runs.runs_are_drives.Goals as goal

pub returns : goal.returns
returns g c = λ r recovered honest whole read. is_run g.D.Disk g.O.Disk r recovered honest whole read
