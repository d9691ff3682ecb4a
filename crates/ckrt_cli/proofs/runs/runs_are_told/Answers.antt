use Rattle.ckrt_cli.proofs.DriveRunLemmas.{told_by_record}
use Rattle.ckrt_cli.proofs.runs.runs_are_told.Goals as goal

pub returns : goal.returns
returns g c = λ r found supplied noted path from old new schedule law supplies notes joined recovered honest at.
    told_by_record g.D.Disk (g.S.Sources.gives c.args.sources.now) from g.O.Disk r found supplied noted path old new schedule law supplies notes joined recovered honest at
